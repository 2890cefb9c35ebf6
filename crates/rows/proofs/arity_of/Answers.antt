use borrow.Author.Rules.{rules}
use borrow.Author.Tests.{lt-ltb, le-ltb}
use Rattle.rows.specs.Numbers.{arity_in}
use Rattle.rows.proofs.arity_of.Goals as goal

ruleset tests = (lt-ltb, le-ltb)

pub returns-then-r-lt-NO_KIND : goal.returns-then-r-lt-NO_KIND
unfolding arity_in
returns-then-r-lt-NO_KIND c = search (rules, tests)

pub returns-else-r-lt-NO_KIND : goal.returns-else-r-lt-NO_KIND
unfolding arity_in
returns-else-r-lt-NO_KIND c = search (rules, tests)
