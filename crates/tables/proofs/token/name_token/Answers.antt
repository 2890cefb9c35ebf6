-- `token::name_token`: a name is not 0.
use Rattle.tokens.proofs.Places.{tests}
use borrow.Author.Rules.{rules}
use Rattle.tables.proofs.token.name_token.Goals as goal

pub returns-then-name-eq0 : goal.returns-then-name-eq0
returns-then-name-eq0 c = search (tests, rules)

pub returns-else-name-eq0 : goal.returns-else-name-eq0
returns-else-name-eq0 c = search (tests, rules)
