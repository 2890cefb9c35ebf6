use mathlib.Core.Path.{refl}
use Rattle.context.proofs.Joins.{contexts-frames, uniting-done, uniting-room, uniting-size, uniting-small, uniting-start, uniting-turn}
use borrow.Author.Rules.{rules}
use Rattle.context.proofs.extending.unite_contexts.Goals as goal

pub loop-i-init : goal.loop-i-init
loop-i-init c = (search uniting-start, refl)

pub join_context-n-requires : goal.join_context-n-requires
join_context-n-requires c = (search rules, search uniting-small, search uniting-room, search uniting-size)

pub loop-i-preserved : goal.loop-i-preserved
loop-i-preserved c = (search uniting-turn, search contexts-frames)

pub returns : goal.returns
returns c = (search rules, search uniting-done)
