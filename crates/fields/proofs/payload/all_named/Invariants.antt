use mathlib.Core.Path.{◌≡◌}
use Prim.Native.Nat.{◌*◌, ◌-◌}
use Rattle.fields.specs.Payload.{all_named}
use Rattle.fields.proofs.payload.all_named.Given as goal

abbrev pub invariant-loop-i : goal.invariant-loop-i
invariant-loop-i l = all_named (l.k - l.i) l.p (2 * l.i) ≡ all_named l.k l.p 0
