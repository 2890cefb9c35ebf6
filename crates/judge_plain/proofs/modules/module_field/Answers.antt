use mathlib.Core.Path.{◌∙◌, refl}
use Rattle.judge_plain.proofs.Answers.{answer-refused, answer-taken, kept-after, kept-before}
use Rattle.judge_plain.proofs.Found.{err-some}
use Rattle.judge_plain.proofs.modules.module_field.Goals as goal

pub returns-in-Err : goal.returns-in-Err
returns-in-Err c =
    let e = c.number.ensures ∙ c.in-Err.ensures in
    let some = err-some _ c.number.ensures in
    (answer-refused _ _ _ _ _ _ _ e some c.refused.ensures, kept-before _ _ _ _ e some)

pub returns : goal.returns
returns c =
    let e = c.in_default.ensures in
    (answer-taken _ _ _ _ _ _ _ e refl c.add_module-counts.ensures.0, kept-after _ _ _ _ _ e refl c.add_module-counts.ensures.1)
