use Rattle.judge_instance.proofs.LevelCases.{lawful-bound, lawful-free, lawful-variable}
use Rattle.judge_instance.proofs.lawful.is_lawful.Goals as goal

pub returns-then-kind-eq-VARIABLE : goal.returns-then-kind-eq-VARIABLE
returns-then-kind-eq-VARIABLE c = search lawful-variable

pub returns-then-is_free : goal.returns-then-is_free
returns-then-is_free c = search lawful-free

pub returns : goal.returns
returns c = search lawful-bound
