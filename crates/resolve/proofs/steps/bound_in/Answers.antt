use Rattle.tokens.proofs.Places.{tests}
use borrow.Author.Rules.{rules}
use Rattle.resolve.proofs.steps.bound_in.Goals as goal

pub returns-then-left-eq1 : goal.returns-then-left-eq1
returns-then-left-eq1 c = search (rules, tests)

pub returns-else-left-eq1 : goal.returns-else-left-eq1
returns-else-left-eq1 c = search (rules, tests)
