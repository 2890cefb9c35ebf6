use Rattle.tokens.proofs.Places.{tests}
use borrow.Author.Rules.{rules}
use Rattle.fields.proofs.payload.lawful_head.Goals as goal

pub returns-then-name-eq0 : goal.returns-then-name-eq0
returns-then-name-eq0 c = search (tests, rules)

pub returns-else-name-eq0 : goal.returns-else-name-eq0
returns-else-name-eq0 c = search (tests, rules)
