use mathlib.Core.Path.{◌≡◌}
use Prim.Native.Nat.{◌-◌, ◌≤◌}
use lib.ListN.{length}
use Rattle.fields.specs.Substitution.{substitutions_fit}
use Rattle.fields.proofs.substitutions.substitutions_fit.Given as goal

abbrev pub invariant-loop-i : goal.invariant-loop-i
invariant-loop-i l = (l.at ≤ length l.p) × (substitutions_fit (l.count - l._i) l.p l.at ≡ substitutions_fit l.count l.p l.from)
