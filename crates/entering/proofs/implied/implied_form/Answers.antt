-- `implied::implied_form`: the labels of a name's form, at parameters in a row.
use Rattle.entering.proofs.Implying.{implied-gives}
use borrow.Author.Rules.{rules}
use Rattle.entering.proofs.implied.implied_form.Goals as goal

pub returns : goal.returns
returns c = search (rules, implied-gives)
