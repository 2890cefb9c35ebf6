use Rattle.judge_texts.proofs.Answers.{formula-early, formula-kept, formula-over}
use Rattle.judge_texts.proofs.formulas.formula_cause.Goals as goal

pub returns-then-out_of_order : goal.returns-then-out_of_order
returns-then-out_of_order c = search formula-early

pub returns-then-is_none : goal.returns-then-is_none
returns-then-is_none c = search formula-over

pub returns : goal.returns
returns c = search formula-kept
