use mathlib.Core.Path.{◌≡◌}
use Prim.Native.Nat.{◌+◌, ◌-◌, ◌≤◌, min}
use lib.ListN.{length}
use Rattle.strings.specs.Read.{string_at}
use Rattle.strings.proofs.Bits.{marks}
use Rattle.strings.proofs.occurring_bits.Given as goal

abbrev pub invariant-loop-i : goal.invariant-loop-i
invariant-loop-i l = (l.end ≡ min l.n (length l.s)) × (l.i ≤ l.end + 3) × (marks l.seen (string_at l.s l.i l.n) ≡ marks 0 (string_at l.s 0 l.n))

abbrev pub decreases-loop-i : goal.decreases-loop-i
decreases-loop-i l = l.end - l.i
