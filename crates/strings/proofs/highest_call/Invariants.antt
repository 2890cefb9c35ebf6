use Prim.Native.Nat.{◌+◌, ◌-◌, ◌≤◌, max, min}
use mathlib.Core.Path.{◌≡◌}
use lib.ListN.{length}
use Rattle.strings.specs.Read.{highest_call, string_at}
use Rattle.strings.proofs.highest_call.Given as goal

abbrev pub invariant-loop-i : goal.invariant-loop-i
invariant-loop-i l = (l.end ≡ min l.n (length l.s)) × (l.i ≤ l.end + 3) × (max l.most (highest_call (string_at l.s l.i l.n)) ≡ highest_call (string_at l.s 0 l.n))

abbrev pub decreases-loop-i : goal.decreases-loop-i
decreases-loop-i l = l.end - l.i
