-- `reading::levels_cause`: 3 before 5.
use Rattle.asking.proofs.Causes.{cause-arity, cause-level, cause-none}
use Rattle.asking.proofs.reading.levels_cause.Goals as goal

pub returns-then-level_above : goal.returns-then-level_above
returns-then-level_above c = search cause-level

pub returns-then-levels-gt-ARITY : goal.returns-then-levels-gt-ARITY
returns-then-levels-gt-ARITY c = search cause-arity

pub returns : goal.returns
returns c = search cause-none
