use mathlib.Core.Path.{◌≡◌}
use Prim.Native.Nat.{◌≤◌}
use lib.ListN.{length}
use Rattle.callees.specs.Walk.{Sized}
use Rattle.templates.specs.Shaped.{shape_count, text_bytes}
use Rattle.templates.proofs.Defining.{Defining}
use Rattle.templates.proofs.shaping.shape_all.Given as goal

abbrev pub invariant-loop-d : goal.invariant-loop-d
invariant-loop-d l =
    Defining l.file l.refs l.store l.store.declared l.n l.d l.shapes × (l.d ≤ l.count) × (length l.text ≡ text_bytes) × (length l.along ≡ shape_count)
