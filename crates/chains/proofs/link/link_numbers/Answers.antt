-- `link::link_numbers`.
use Rattle.chains.proofs.Linking.{entered-link}
use borrow.Author.Rules.{rules}
use Rattle.chains.proofs.link.link_numbers.Goals as goal

pub returns : goal.returns
returns c = search (rules, entered-link)
