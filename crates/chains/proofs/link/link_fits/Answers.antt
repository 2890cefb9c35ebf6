-- `link::link_fits`: the facts of the field.
use Rattle.chains.proofs.Linking.{columns-read}
use borrow.Author.Rules.{rules}
use Rattle.chains.proofs.link.link_fits.Goals as goal

pub returns : goal.returns
returns c = search (rules, columns-read)
