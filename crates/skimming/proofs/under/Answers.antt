-- `under`: the last argument, or one before it.
use Rattle.tokens.proofs.Places.{tests}
use borrow.Author.Rules.{rules}
use Rattle.skimming.proofs.under.Goals as goal

pub returns-then-k-eq1 : goal.returns-then-k-eq1
returns-then-k-eq1 c = search (tests, rules)

pub returns-else-k-eq1 : goal.returns-else-k-eq1
returns-else-k-eq1 c = search (tests, rules)
