-- `token::instance_token`: neither name is 0.
use Rattle.tokens.proofs.Places.{tests}
use borrow.Author.Rules.{rules}
use Rattle.tables.proofs.token.instance_token.Goals as goal

pub returns-then-inst-eq0 : goal.returns-then-inst-eq0
returns-then-inst-eq0 c = search (tests, rules)

pub returns-then-name-eq0 : goal.returns-then-name-eq0
returns-then-name-eq0 c = search (tests, rules)

pub returns-else-name-eq0 : goal.returns-else-name-eq0
returns-else-name-eq0 c = search (tests, rules)
