use Prim.Native.Nat.{◌+◌, ◌-◌}
use mathlib.Core.Path.{◌≡◌}
use Rattle.context.specs.Parts.{part, place_of}
use Rattle.context.proofs.lists.place_of.Given as goal

abbrev pub invariant-loop-i : goal.invariant-loop-i
invariant-loop-i l = l.i + place_of l.x (part l.store.heads l.i (l.end - l.i)) ≡ l.from + place_of l.x (part l.store.heads l.from (l.end - l.from))
