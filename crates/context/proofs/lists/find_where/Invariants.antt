use Prim.Native.Nat.{◌-◌, ℕ}
use mathlib.Core.Bool.{Bool}
use mathlib.Core.Path.{◌≡◌}
use Rattle.context.specs.Lookup.{Tests}
use Rattle.context.specs.Parts.{part}
use Rattle.theory.specs.Lists.{find}
use Rattle.context.proofs.lists.find_where.Given as goal

abbrev pub invariant-loop-i : goal.invariant-loop-i
invariant-loop-i g l =
    (t : ℕ → Bool) → Tests (goal.F-post g l.test) t → find t (part l.store.contexts l.i (l.end - l.i)) ≡ find t (part l.store.contexts l.from (l.end - l.from))
