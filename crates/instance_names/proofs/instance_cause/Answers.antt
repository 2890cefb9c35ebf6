use mathlib.Core.Path.{refl}
use Rattle.std.proofs.lemmas.Result.{err_from_is_err_and}
use Rattle.judge_plain.proofs.Found.{err-some}
use Rattle.instance_names.proofs.Judged.{judged-first, judged-names, source-below}
use borrow.Author.Rules.{rules}
use Rattle.instance_names.proofs.instance_cause.Goals as goal

pub returns-in_err-first_cause : goal.returns-in_err-first_cause
returns-in_err-first_cause c =
    let p = err_from_is_err_and c.from_residual.result c.from_residual.ensures.1 in
    rw (p.1, p.2) (search (judged-first, c.in_err-first_cause.ensures, err-some c.in_err-first_cause.field-0.0 refl))

pub name_cause-requires : goal.name_cause-requires
name_cause-requires c = (search rules, search (source-below, c.in_ok-first_cause.ensures))

pub returns : goal.returns
returns c = search (judged-names, c.in_ok-first_cause.ensures)
