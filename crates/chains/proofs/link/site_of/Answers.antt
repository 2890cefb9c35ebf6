-- `link::site_of`: the facts of the field.
use Rattle.chains.proofs.Linking.{fits-kind, site-made}
use borrow.Author.Rules.{rules}
use Rattle.chains.proofs.link.site_of.Goals as goal

pub site_by-requires : goal.site_by-requires
site_by-requires c = search (rules, fits-kind)

pub returns : goal.returns
returns c = search (rules, site-made)
