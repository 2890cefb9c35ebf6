-- `link::first_of`.
use Rattle.chains.proofs.Linking.{fits-first}
use borrow.Author.Rules.{rules}
use Rattle.chains.proofs.link.first_of.Goals as goal

pub returns : goal.returns
returns c = search (rules, fits-first)
