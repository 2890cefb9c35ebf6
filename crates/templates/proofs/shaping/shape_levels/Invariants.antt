use mathlib.Core.Path.{◌≡◌}
use lib.ListN.{length}
use Rattle.templates.specs.Shaped.{text_bytes}
use Rattle.templates.proofs.Storing.{Storing}
use Rattle.templates.proofs.shaping.shape_levels.Given as goal

abbrev pub invariant-loop-m : goal.invariant-loop-m
invariant-loop-m l =
    Storing l.file l.refs l.store l.store.declared l.n l.k l.chain.numbers l.chain.currents l.chain.outers l.initial.along l.along l.m × (length l.text ≡ text_bytes)
