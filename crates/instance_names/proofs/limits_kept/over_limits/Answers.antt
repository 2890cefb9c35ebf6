use Rattle.instance_names.proofs.Turns.{over-module, over-params, over-substitutions}
use borrow.Author.Rules.{rules}
use Rattle.instance_names.proofs.limits_kept.over_limits.Goals as goal

pub returns-then-x-gt-ARITY : goal.returns-then-x-gt-ARITY
returns-then-x-gt-ARITY c = search (rules, over-params)

pub returns-then-module_over : goal.returns-then-module_over
returns-then-module_over c = search (rules, over-module)

pub returns-else-module_over : goal.returns-else-module_over
returns-else-module_over c = search (rules, over-substitutions)
