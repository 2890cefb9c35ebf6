use Rattle.forms.proofs.Probes.{takes-is}
use borrow.Author.Rules.{rules}
use Rattle.forms.proofs.probing.takes.Goals as goal

pub returns : goal.returns
returns c = search (rules, takes-is)
