use Rattle.judge_instance.proofs.LevelCases.{seen-whole}
use Rattle.judge_instance.proofs.lawful.levels_seen.Goals as goal

pub returns : goal.returns
returns c = search seen-whole
