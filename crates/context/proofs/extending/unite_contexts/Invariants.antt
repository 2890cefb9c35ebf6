use mathlib.Core.Path.{◌≡◌}
use Rattle.context.proofs.Joins.{Uniting}
use Rattle.store.specs.Updates.{with_contexts}
use Rattle.context.proofs.extending.unite_contexts.Given as goal

abbrev pub invariant-loop-i : goal.invariant-loop-i
invariant-loop-i l = Uniting l.from l.end l.base l.count l.initial.store.contexts l.initial.marks l.n l.i l.store.contexts l.marks × (l.store ≡ with_contexts l.initial.store l.store.contexts)
