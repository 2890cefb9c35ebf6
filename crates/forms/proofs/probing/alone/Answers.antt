use Rattle.forms.proofs.Probes.{alone-bits}
use borrow.Author.Rules.{rules}
use Rattle.forms.proofs.probing.alone.Goals as goal

pub returns : goal.returns
returns c = search (rules, alone-bits)
