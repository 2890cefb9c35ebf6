use Prim.Native.Nat.{◌≤◌}
use native.Mathlib.Omega.{arith}
use Rattle.context.proofs.Joins.{counted-marked, counted-small, order-count, order-joined}
use Rattle.limits.specs.Limits.{max_definitions}
use borrow.Author.Rules.{rules}
use Rattle.context.proofs.extending.extend_order.Goals as goal

pub unite_orders-n-requires : goal.unite_orders-n-requires
unite_orders-n-requires c = (search counted-marked, search counted-small, omega arith, omega arith, search rules)

pub overflow_cast-total : goal.overflow_cast-total
overflow_cast-total c = let r : c.unite_orders-n.result ≤ max_definitions = search order-count in omega arith

pub returns : goal.returns
returns c = search order-joined
