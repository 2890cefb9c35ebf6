use Rattle.instance_names.specs.Sites.{answered_some}
use borrow.Author.Rules.{rules}
use Rattle.instance_names.proofs.written.is_answered.Goals as goal

pub returns-in-Some-Constant : goal.returns-in-Some-Constant
unfolding answered_some
returns-in-Some-Constant c = search rules

pub returns-in-Some-Variable : goal.returns-in-Some-Variable
unfolding answered_some
returns-in-Some-Variable c = search rules

pub returns-in-Some-Defined : goal.returns-in-Some-Defined
unfolding answered_some
returns-in-Some-Defined c = search rules

pub returns-in-None : goal.returns-in-None
unfolding answered_some
returns-in-None c = search rules
