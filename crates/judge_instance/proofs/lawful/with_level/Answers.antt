use Rattle.judge_instance.proofs.LevelCases.{with-level}
use Rattle.judge_instance.proofs.lawful.with_level.Goals as goal

pub returns : goal.returns
returns c = search with-level
