use mathlib.Core.Path.{◌≡◌}
use lib.ListN.{length}
use Rattle.templates.specs.Taking.{work_bytes}
use Rattle.expanding.proofs.Looping.{Going}
use Rattle.expanding.proofs.passes.expansion.Given as goal

abbrev pub invariant-loop-k : goal.invariant-loop-k
invariant-loop-k l =
    Going l.file l.refs l.store l.store.declared l.n l.shapes l.initial.a l.len l.a l.size l.k × (length l.work ≡ work_bytes) × (length l.filled ≡ work_bytes)

abbrev pub decreases-loop-k : goal.decreases-loop-k
decreases-loop-k l =
    l.k
