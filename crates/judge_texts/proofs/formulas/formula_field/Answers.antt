use mathlib.Core.Path.{◌∙◌}
use Rattle.judge_plain.proofs.Found.{err-some}
use Rattle.judge_texts.proofs.Answers.{formula-stopped, formula-walked}
use Rattle.judge_texts.proofs.formulas.formula_field.Goals as goal

pub returns-in-Err : goal.returns-in-Err
returns-in-Err c = search (formula-stopped, c.number.ensures ∙ c.in-Err.ensures, err-some _ c.number.ensures)

pub returns : goal.returns
returns c = search (formula-walked, c.in_default.ensures)
