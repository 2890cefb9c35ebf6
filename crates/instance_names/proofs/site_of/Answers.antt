use Rattle.instance_names.proofs.Judged.{site-there}
use borrow.Author.Rules.{rules}
use Rattle.instance_names.proofs.site_of.Goals as goal

pub returns : goal.returns
returns c = (search site-there, search rules)
