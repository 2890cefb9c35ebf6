use Rattle.judge_instance.proofs.LevelCases.{own-declared, own-other}
use Rattle.judge_instance.proofs.lawful.is_own.Goals as goal

pub returns-then-is_declared : goal.returns-then-is_declared
returns-then-is_declared c = search own-declared

pub returns : goal.returns
returns c = search own-other
