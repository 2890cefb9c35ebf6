use Rattle.instance_names.proofs.Turns.{kind-other, kind-variable}
use borrow.Author.Rules.{rules}
use Rattle.instance_names.proofs.implied.kind_count.Goals as goal

pub returns-then-kind-eq-VARIABLE : goal.returns-then-kind-eq-VARIABLE
returns-then-kind-eq-VARIABLE c = search (rules, kind-variable)

pub returns-else-kind-eq-VARIABLE : goal.returns-else-kind-eq-VARIABLE
returns-else-kind-eq-VARIABLE c = search (rules, kind-other)
