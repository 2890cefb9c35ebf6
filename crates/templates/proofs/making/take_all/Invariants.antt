use mathlib.Core.Path.{◌≡◌}
use lib.ListN.{length}
use Rattle.templates.specs.Shaped.{text_bytes}
use Rattle.templates.specs.Taking.{work_bytes}
use Rattle.templates.proofs.Taking.{Underway}
use Rattle.templates.proofs.making.take_all.Given as goal

abbrev pub invariant-loop-h : goal.invariant-loop-h
invariant-loop-h l =
    Underway l.file l.refs l.store l.store.declared l.chain.numbers l.chain.currents l.chain.outers l.along l.initial.work l.len l.work l.q l.h × (length l.text ≡ text_bytes) × (length l.filled ≡ work_bytes) × (length l.work ≡ work_bytes)

abbrev pub decreases-loop-h : goal.decreases-loop-h
decreases-loop-h l =
    l.h
