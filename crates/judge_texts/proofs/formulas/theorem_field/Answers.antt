use Rattle.judge_texts.proofs.FormulaLaws.{theorem-judging}
use Rattle.judge_texts.proofs.formulas.theorem_field.Goals as goal

pub returns : goal.returns
returns c = search theorem-judging
