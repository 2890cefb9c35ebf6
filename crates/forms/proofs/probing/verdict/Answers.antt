use Rattle.forms.proofs.Probes.{verdict-is}
use borrow.Author.Rules.{rules}
use Rattle.forms.proofs.probing.verdict.Goals as goal

pub returns : goal.returns
returns c = search (rules, verdict-is)
