use Rattle.instance_names.proofs.Turns.{arity-absent, arity-found}
use borrow.Author.Rules.{rules}
use Rattle.instance_names.proofs.limits_kept.arity_there.Goals as goal

pub returns-then-x : goal.returns-then-x
returns-then-x c = search (rules, arity-absent)

pub returns : goal.returns
returns c = search (rules, arity-found)
