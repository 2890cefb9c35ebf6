use Prim.Native.Nat.{◌+◌, ◌<◌}
use native.Mathlib.Omega.{arith}
use Rattle.context.proofs.Joins.{join-count, join-place, joined-old, order-new, orders-frame}
use Rattle.limits.specs.Sizes.{orders_length}
use borrow.Author.Rules.{rules}
use Rattle.context.proofs.extending.join_order.Goals as goal

pub overflow_add-place : goal.overflow_add-place
overflow_add-place c = let r : c.args.base + c.args.count < orders_length = search join-place in omega arith

pub put_order-requires : goal.put_order-requires
put_order-requires c = search join-place

pub overflow_add-result : goal.overflow_add-result
overflow_add-result c = search (rules, join-count)

pub returns-then-tally-g-eq0 : goal.returns-then-tally-g-eq0
returns-then-tally-g-eq0 c = (search orders-frame, search order-new)

pub returns : goal.returns
returns c = (search rules, search joined-old)
