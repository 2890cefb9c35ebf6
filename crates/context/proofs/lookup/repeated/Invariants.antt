use Prim.Native.Nat.{◌-◌}
use mathlib.Core.Path.{◌≡◌}
use Rattle.context.specs.Lookup.{repeated_in}
use Rattle.context.specs.Parts.{part}
use Rattle.context.proofs.lookup.repeated.Given as goal

abbrev pub invariant-loop-i : goal.invariant-loop-i
invariant-loop-i l = repeated_in l.store.names (part l.store.contexts l.i (l.end - l.i)) ≡ repeated_in l.store.names (part l.store.contexts l.from (l.end - l.from))
