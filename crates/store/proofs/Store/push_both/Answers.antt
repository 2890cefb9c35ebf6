use Rattle.store.proofs.Pushing.{both-pushed, order-stays}
use borrow.Author.Rules.{rules}
use Rattle.store.proofs.Store.push_both.Goals as goal

pub push_order-requires : goal.push_order-requires
push_order-requires c = search (rules, order-stays)

pub returns : goal.returns
returns c = search (rules, both-pushed)
