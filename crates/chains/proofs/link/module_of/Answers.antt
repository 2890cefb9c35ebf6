-- `link::module_of`.
use Rattle.chains.proofs.Linking.{fits_via}
use borrow.Author.Rules.{rules}
use Rattle.chains.proofs.link.module_of.Goals as goal

pub returns : goal.returns
returns c = search (rules, fits_via)
