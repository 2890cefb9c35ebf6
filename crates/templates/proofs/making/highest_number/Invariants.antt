use Prim.Native.Nat.{◌+◌, ◌-◌, ◌≤◌, max, min}
use mathlib.Core.Path.{◌≡◌}
use lib.ListN.{length}
use Rattle.strings.specs.Read.{string_at}
use Rattle.templates.specs.Highest.{highest_number}
use Rattle.templates.specs.Shaped.{shape_count}
use Rattle.templates.proofs.making.highest_number.Given as goal

abbrev pub invariant-loop-i : goal.invariant-loop-i
invariant-loop-i l = (l.end ≡ min l.n (length l.s)) × (l.i ≤ l.end + 3) × (max l.most (highest_number (string_at l.s l.i l.n)) ≡ highest_number (string_at l.s 0 l.n)) × (l.most ≤ shape_count)

abbrev pub decreases-loop-i : goal.decreases-loop-i
decreases-loop-i l = l.end - l.i
