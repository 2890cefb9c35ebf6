use Prim.Native.Nat.{◌+◌, ◌-◌, ◌≤◌, max, min}
use mathlib.Core.Path.{◌≡◌}
use lib.ListN.{length}
use Rattle.symbols.specs.Symbol.{move}
use Rattle.strings.specs.Read.{string_at}
use Rattle.strings.proofs.Laying.{ToLay}
use Rattle.strings.proofs.put_moved.Given as goal

abbrev pub invariant-loop-i : goal.invariant-loop-i
invariant-loop-i l = (l.end ≡ min l.to (length l.s)) × (l.from ≤ l.i) × (l.i ≤ max l.from (l.end + 3)) × (l.c ≤ l.i - l.from) × ToLay (move l.b 0 (string_at l.s l.from l.to)) l.at l.initial.out (move l.b l.c (string_at l.s l.i l.to)) l.q l.out

abbrev pub decreases-loop-i : goal.decreases-loop-i
decreases-loop-i l = l.end - l.i
