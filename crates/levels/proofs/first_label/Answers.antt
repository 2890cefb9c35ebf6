use Rattle.levels.proofs.Walking.{first-digit}
use borrow.Author.Rules.{rules}
use Rattle.levels.proofs.first_label.Goals as goal

pub returns : goal.returns
returns c = search (rules, first-digit)
