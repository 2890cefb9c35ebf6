use Rattle.store.proofs.Pushing.{context-pushed}
use borrow.Author.Rules.{rules}
use Rattle.store.proofs.Store.push_context.Goals as goal

pub returns : goal.returns
returns c = search (rules, context-pushed)
