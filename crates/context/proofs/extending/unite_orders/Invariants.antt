use mathlib.Core.Path.{◌≡◌}
use Rattle.context.proofs.Joins.{Uniting}
use Rattle.store.specs.Updates.{with_orders}
use Rattle.context.proofs.extending.unite_orders.Given as goal

abbrev pub invariant-loop-i : goal.invariant-loop-i
invariant-loop-i l = Uniting l.from l.end l.base l.count l.initial.store.orders l.initial.tally l.n l.i l.store.orders l.tally × (l.store ≡ with_orders l.initial.store l.store.orders)
