use Prim.Native.Nat.{◌+◌, ◌-◌, ◌≤◌, min}
use mathlib.Core.Path.{◌≡◌}
use lib.ListN.{length}
use Rattle.symbols.proofs.Sizes.{by_two}
use Rattle.symbols.specs.Weight.{weight}
use Rattle.strings.specs.Read.{string_at}
use Rattle.expanding.proofs.passes.string_weight.Given as goal

abbrev pub invariant-loop-i : goal.invariant-loop-i
invariant-loop-i l = (l.end ≡ min l.n (length l.s)) × (l.i ≤ l.end + 3) × (l.q ≤ l.i) × (l.q + weight by_two (string_at l.s l.i l.n) ≡ weight by_two (string_at l.s 0 l.n))

abbrev pub decreases-loop-i : goal.decreases-loop-i
decreases-loop-i l = l.end - l.i
