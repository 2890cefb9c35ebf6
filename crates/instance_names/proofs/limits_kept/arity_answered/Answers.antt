use Rattle.instance_names.specs.Sites.{answered_arity}
use borrow.Author.Rules.{rules}
use Rattle.instance_names.proofs.limits_kept.arity_answered.Goals as goal

pub returns-in-Some-Constant : goal.returns-in-Some-Constant
unfolding answered_arity
returns-in-Some-Constant c = search rules

pub returns-in-Some-Variable : goal.returns-in-Some-Variable
unfolding answered_arity
returns-in-Some-Variable c = search rules

pub returns-in-Some-Defined : goal.returns-in-Some-Defined
unfolding answered_arity
returns-in-Some-Defined c = search rules

pub returns-in-None : goal.returns-in-None
unfolding answered_arity
returns-in-None c = search rules
