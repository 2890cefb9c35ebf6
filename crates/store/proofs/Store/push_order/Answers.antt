use Rattle.store.proofs.Pushing.{order-pushed}
use borrow.Author.Rules.{rules}
use Rattle.store.proofs.Store.push_order.Goals as goal

pub returns : goal.returns
returns c = search (rules, order-pushed)
