use Prim.Native.Nat.{◌+◌, ◌-◌, ◌*◌, ◌≤◌, max, min}
use mathlib.Core.Path.{◌≡◌}
use lib.ListN.{length}
use Rattle.symbols.specs.Pieces.{scan}
use Rattle.strings.specs.Read.{shape_in, string_at}
use Rattle.strings.proofs.piece_end.Given as goal

abbrev pub invariant-loop-i : goal.invariant-loop-i
invariant-loop-i l = (l.end ≡ min l.n (length l.s)) × (l.at ≤ l.i) × (l.i ≤ max l.at (l.end + 3)) × (l.left ≤ 1 + 255 * (l.i - l.at)) × (l.c ≤ l.i - l.at) × (l.i + scan (shape_in l.shapes) l.left l.c (string_at l.s l.i l.n) ≡ l.at + scan (shape_in l.shapes) 1 0 (string_at l.s l.at l.n))

abbrev pub decreases-loop-i : goal.decreases-loop-i
decreases-loop-i l = l.end - l.i
