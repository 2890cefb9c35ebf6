use mathlib.Core.Path.{refl}
use Rattle.std.proofs.lemmas.Result.{err_from_is_err_and}
use Rattle.judge_plain.proofs.Found.{err-some}
use Rattle.judge_texts.proofs.Answers.{last-loose, last-strict, last-text, last-zero}
use Rattle.judge_texts.proofs.formulas.last_cause.Goals as goal

pub returns-in_err-text_cause : goal.returns-in_err-text_cause
returns-in_err-text_cause c =
    let p = err_from_is_err_and c.from_residual.result c.from_residual.ensures.1 in
    rw (p.1, p.2) (last-text c.args.t c.args.strict _ c.in_err-text_cause.ensures (err-some _ refl))

pub returns-then-t-ne0 : goal.returns-then-t-ne0
returns-then-t-ne0 c = search (last-strict, c.in_ok-text_cause.ensures)

pub returns-else-t-ne0 : goal.returns-else-t-ne0
returns-else-t-ne0 c = search (last-zero, c.in_ok-text_cause.ensures)

pub returns-else-strict : goal.returns-else-strict
returns-else-strict c = search (last-loose, c.in_ok-text_cause.ensures)
