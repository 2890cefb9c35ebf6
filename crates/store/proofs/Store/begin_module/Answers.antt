use Rattle.store.proofs.Pushing.{begun-at}
use borrow.Author.Rules.{rules}
use Rattle.store.proofs.Store.begin_module.Goals as goal

pub returns : goal.returns
returns c = search (rules, begun-at)
