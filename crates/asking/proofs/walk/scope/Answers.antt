-- `walk::scope`: the last argument, or one before it.
use borrow.Author.Rules.{rules}
use Rattle.tokens.proofs.Places.{tests}
use Rattle.asking.proofs.walk.scope.Goals as goal

pub returns-then-k-eq1 : goal.returns-then-k-eq1
returns-then-k-eq1 c = search (tests, rules)

pub returns-else-k-eq1 : goal.returns-else-k-eq1
returns-else-k-eq1 c = search (tests, rules)
