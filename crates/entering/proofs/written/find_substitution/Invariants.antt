use Prim.Native.Nat.{◌-◌}
use mathlib.Core.Path.{◌≡◌}
use Rattle.entering.specs.Written.{written_at}
use Rattle.entering.proofs.written.find_substitution.Given as goal

abbrev pub invariant-loop-i : goal.invariant-loop-i
invariant-loop-i l = written_at (l.count - l._i) l.s l.at l.name ≡ written_at l.count l.s l.from l.name
