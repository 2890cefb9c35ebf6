use Rattle.levels.specs.Walk.{inner_bits}
use borrow.Author.Tests.{eq-eqb, ne_eqb}
use borrow.Author.Rules.{rules}
use Rattle.levels.proofs.steps.bind.Goals as goal

pub returns-then-kind-eq0 : goal.returns-then-kind-eq0
unfolding inner_bits
returns-then-kind-eq0 c = search (rules, eq-eqb)

pub returns-else-kind-eq0 : goal.returns-else-kind-eq0
unfolding inner_bits
returns-else-kind-eq0 c = search (rules, ne_eqb)
