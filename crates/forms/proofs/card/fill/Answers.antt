use Rattle.forms.proofs.Laying.{stored}
use borrow.Author.Rules.{rules}
use Rattle.forms.proofs.card.fill.Goals as goal

pub returns : goal.returns
returns c = search (rules, stored)
