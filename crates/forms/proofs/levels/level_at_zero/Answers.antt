use Rattle.forms.proofs.Reading.{at_zero}
use borrow.Author.Rules.{rules}
use Rattle.forms.proofs.levels.level_at_zero.Goals as goal

pub returns : goal.returns
returns c = search (rules, at_zero)
