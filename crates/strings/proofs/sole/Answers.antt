use Rattle.strings.proofs.Turns.{sole-empty, sole-one, sole-several}
use borrow.Author.Rules.{rules}
use Rattle.strings.proofs.sole.Goals as goal

pub returns-then-end-eq0 : goal.returns-then-end-eq0
returns-then-end-eq0 c = (search sole-empty, search rules)

pub returns-then-end-gt2 : goal.returns-then-end-gt2
returns-then-end-gt2 c = (search sole-several, search rules)

pub returns : goal.returns
returns c = (search sole-one, search rules)
