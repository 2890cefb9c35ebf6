use mathlib.Core.Path.{◌≡◌}
use Rattle.asking.proofs.Levels.{above_from}
use Rattle.asking.proofs.reading.level_above.Given as goal

abbrev pub invariant-loop-i : goal.invariant-loop-i
invariant-loop-i l = above_from l.levels l.i ≡ above_from l.levels 0
