-- `making::number_called`.
use Rattle.templates.proofs.Highest.{called-arm}
use borrow.Author.Rules.{rules}
use Rattle.templates.proofs.making.number_called.Goals as goal

pub returns-in-Call : goal.returns-in-Call
returns-in-Call c = search (rules, called-arm)
