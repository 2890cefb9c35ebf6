-- `link::link_substitutes`.
use Rattle.chains.proofs.Linking.{substituted-link}
use borrow.Author.Rules.{rules}
use Rattle.chains.proofs.link.link_substitutes.Goals as goal

pub returns : goal.returns
returns c = search (rules, substituted-link)
