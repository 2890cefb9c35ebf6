use Prim.Native.Nat.{◌+◌, ◌-◌, ◌≤◌, min}
use mathlib.Core.Path.{◌≡◌}
use lib.ListN.{length}
use Rattle.symbols.specs.Symbol.{fill}
use Rattle.strings.specs.Laid.{arguments_at}
use Rattle.strings.specs.Read.{string_at}
use Rattle.strings.proofs.Laying.{ToLay}
use Rattle.strings.proofs.fill_in.Given as goal

abbrev pub invariant-loop-i : goal.invariant-loop-i
invariant-loop-i l = (l.end ≡ min l.n (length l.template)) × (l.i ≤ l.end + 3) × (l.c ≤ l.i) × ToLay (fill (arguments_at l.s l.bounds) 0 (string_at l.template 0 l.n)) 0 l.initial.out (fill (arguments_at l.s l.bounds) l.c (string_at l.template l.i l.n)) l.q l.out

abbrev pub decreases-loop-i : goal.decreases-loop-i
decreases-loop-i l = l.end - l.i
