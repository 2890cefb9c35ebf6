use Rattle.judge_instance.proofs.LevelCases.{level-none, level-stood}
use Rattle.judge_instance.proofs.lawful.level_found.Goals as goal

pub returns-then-is_own : goal.returns-then-is_own
returns-then-is_own c = search level-stood

pub returns : goal.returns
returns c = search level-none
