use native.Mathlib.Omega.{arith}
use Rattle.instancing.proofs.Brings.{bring-done, bring-turn, context_room, order_room}
use borrow.Author.Rules.{rules}
use Rattle.instancing.proofs.bring_all.Goals as goal

pub loop-i-preserved : goal.loop-i-preserved
loop-i-preserved c = (search (rules, context_room), search (rules, order_room), bring-turn _ _ _ _ _ _ _ _ _ _ _ _ (omega (arith, c.loop-i.auto.i)) c.bring_one.ensures c.loop-i.invariant.2 c.order_at.ensures c.loop-i-test.true c.requires.1)

pub returns : goal.returns
returns c = search (rules, bring-done)
