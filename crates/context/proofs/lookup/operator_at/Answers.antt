use Rattle.context.proofs.Answers.{at_constant, at-defined, at_other, at-variable}
use Rattle.context.proofs.lookup.operator_at.Goals as goal

pub returns-then-c-lt-DEFINITIONS : goal.returns-then-c-lt-DEFINITIONS
returns-then-c-lt-DEFINITIONS c = search at-defined

pub returns-then-kind-lt-VARIABLE : goal.returns-then-kind-lt-VARIABLE
returns-then-kind-lt-VARIABLE c = search at_constant

pub returns-then-kind-eq-VARIABLE : goal.returns-then-kind-eq-VARIABLE
returns-then-kind-eq-VARIABLE c = search at-variable

pub returns : goal.returns
returns c = search at_other
