use Rattle.strings.proofs.Cases.{at-end, at_here}
use borrow.Author.Rules.{rules}
use Rattle.strings.proofs.symbol_at.Goals as goal

pub returns-then-s-at : goal.returns-then-s-at
returns-then-s-at c = (search at-end, search rules, search rules)

pub returns : goal.returns
returns c = (search at_here, search rules, search rules)
