-- `link::enter_link_numbers`.
use Rattle.chains.proofs.Linking.{numbers-entered}
use borrow.Author.Rules.{rules}
use Rattle.chains.proofs.link.enter_link_numbers.Goals as goal

pub returns : goal.returns
returns c = search (rules, numbers-entered)
