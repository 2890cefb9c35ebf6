use Rattle.judge_texts.proofs.FormulaLaws.{assume-judging}
use Rattle.judge_texts.proofs.formulas.assume_field.Goals as goal

pub returns : goal.returns
returns c = search assume-judging
