use Rattle.context.proofs.Answers.{arity-over, arity-within}
use borrow.Author.Rules.{rules}
use Rattle.context.proofs.lookup.params_at.Goals as goal

pub returns-then-k-gt-ARITY : goal.returns-then-k-gt-ARITY
returns-then-k-gt-ARITY c = (search (rules, arity-over), search rules)

pub returns-else-k-gt-ARITY : goal.returns-else-k-gt-ARITY
returns-else-k-gt-ARITY c = (search (rules, arity-within), search rules)
