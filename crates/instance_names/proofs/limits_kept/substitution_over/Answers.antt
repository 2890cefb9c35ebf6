use Rattle.instance_names.proofs.Turns.{over-arity, over-limit}
use borrow.Author.Rules.{rules}
use Rattle.instance_names.proofs.limits_kept.substitution_over.Goals as goal

pub returns-then-x-k-gt-ARITY : goal.returns-then-x-k-gt-ARITY
returns-then-x-k-gt-ARITY c = search (rules, over-arity)

pub returns-else-x-k-gt-ARITY : goal.returns-else-x-k-gt-ARITY
returns-else-x-k-gt-ARITY c = search (rules, over-limit)
