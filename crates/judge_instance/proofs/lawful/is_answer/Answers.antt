use Rattle.judge_instance.proofs.LevelCases.{answer-constant, answer-defined, answer-not-variable, answer-unknown, answer-variable}
use Rattle.judge_instance.proofs.lawful.is_answer.Goals as goal

pub returns-else-kind-ne-VARIABLE : goal.returns-else-kind-ne-VARIABLE
returns-else-kind-ne-VARIABLE c = search answer-not-variable

pub returns-then-kind-ne-VARIABLE : goal.returns-then-kind-ne-VARIABLE
returns-then-kind-ne-VARIABLE c = search answer-constant

pub returns-in-Variable : goal.returns-in-Variable
returns-in-Variable c = search answer-variable

pub returns-in-Defined : goal.returns-in-Defined
returns-in-Defined c = search answer-defined

pub returns-in_default : goal.returns-in_default
returns-in_default c = search answer-unknown
