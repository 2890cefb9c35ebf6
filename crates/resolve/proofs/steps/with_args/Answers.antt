use Rattle.resolve.proofs.Walking.{unknown-or, miscounted-or}
use borrow.Author.Rules.{rules}
use Rattle.resolve.proofs.steps.with_args.Goals as goal

pub returns-then-is_miscounted : goal.returns-then-is_miscounted
returns-then-is_miscounted c = (search rules, search (unknown-or, rules), search (miscounted-or, rules))

pub returns-else-is_miscounted : goal.returns-else-is_miscounted
returns-else-is_miscounted c = (search rules, search (unknown-or, rules), search (miscounted-or, rules))
