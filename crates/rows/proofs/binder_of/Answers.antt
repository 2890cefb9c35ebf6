use borrow.Author.Rules.{rules}
use borrow.Author.Tests.{eq-eqb, ne_eqb}
use Rattle.rows.specs.Numbers.{binder_in}
use Rattle.rows.proofs.binder_of.Goals as goal

ruleset tests = (eq-eqb, ne_eqb)

pub returns-then-r-eq0 : goal.returns-then-r-eq0
unfolding binder_in
returns-then-r-eq0 c = search (rules, tests)

pub returns-else-r-eq0 : goal.returns-else-r-eq0
unfolding binder_in
returns-else-r-eq0 c = search (rules, tests)
