-- `query::read_cause`: what was read, cause by cause.
use Rattle.expanding.proofs.Causes.{cause-left, cause-miscounted, cause-none, cause-unknown}
use borrow.Author.Rules.{rules}
use Rattle.expanding.proofs.query.read_cause.Goals as goal

pub returns-then-q : goal.returns-then-q
returns-then-q c = search (cause-unknown, rules)

pub returns-then-q-2 : goal.returns-then-q-2
returns-then-q-2 c = search (cause-miscounted, rules)

pub returns-then-q-expr : goal.returns-then-q-expr
returns-then-q-expr c = search (cause-none, rules)

pub returns : goal.returns
returns c = search (cause-left, rules)
