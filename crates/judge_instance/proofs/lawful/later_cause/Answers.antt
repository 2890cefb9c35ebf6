use Rattle.judge_instance.proofs.LevelCases.{later-own}
use Rattle.judge_instance.proofs.lawful.later_cause.Goals as goal

pub returns : goal.returns
returns c = search later-own
