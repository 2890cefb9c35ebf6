-- `link::columns_fit`: each test in turn.
use borrow.Author.Tests.{le-ltb, lt-ltb}
use Rattle.chains.specs.Walk.{columns_fit}
use borrow.Author.Rules.{rules}
use Rattle.chains.proofs.link.columns_fit.Goals as goal

ruleset tests = (le-ltb, lt-ltb)

pub returns-then-kind-lt-INSTANCE : goal.returns-then-kind-lt-INSTANCE
unfolding columns_fit
returns-then-kind-lt-INSTANCE c = search (rules, tests)

pub returns-then-outer-kind-gt-ARITY : goal.returns-then-outer-kind-gt-ARITY
unfolding columns_fit
returns-then-outer-kind-gt-ARITY c = search (rules, tests)

pub returns-then-first-gt-DEFINITIONS : goal.returns-then-first-gt-DEFINITIONS
unfolding columns_fit
returns-then-first-gt-DEFINITIONS c = search (rules, tests)

pub returns-then-via-gt-MODULES : goal.returns-then-via-gt-MODULES
unfolding columns_fit
returns-then-via-gt-MODULES c = search (rules, tests)

pub returns-then-link-gt-MODULES : goal.returns-then-link-gt-MODULES
unfolding columns_fit
returns-then-link-gt-MODULES c = search (rules, tests)

pub returns : goal.returns
unfolding columns_fit
returns c = search (rules, tests)
