use mathlib.Core.Path.{refl}
use Rattle.context.proofs.Joins.{orders-frames, uniting-done, uniting-room, uniting-size, uniting-small, uniting-start, uniting-turn}
use borrow.Author.Rules.{rules}
use Rattle.context.proofs.extending.unite_orders.Goals as goal

pub loop-i-init : goal.loop-i-init
loop-i-init c = (search uniting-start, refl)

pub join_order-n-requires : goal.join_order-n-requires
join_order-n-requires c = (search rules, search uniting-small, search uniting-room, search uniting-size)

pub loop-i-preserved : goal.loop-i-preserved
loop-i-preserved c = (search uniting-turn, search orders-frames)

pub returns : goal.returns
returns c = (search rules, search uniting-done)
