use Rattle.std.proofs.lemmas.Result.{err_from_is_err_and}
use Rattle.checker.proofs.Answers.{check-counted, check-refused}
use borrow.Author.Rules.{rules}
use Rattle.checker.proofs.check_fields.Goals as goal

pub judge_in-requires : goal.judge_in-requires
judge_in-requires c = (search rules, search rules, search rules, search rules, search rules)

pub returns : goal.returns
returns c = check-counted _ _ _ _ _ _ _ c.requires.0 c.requires.1 c.requires.2 c.judge_in.ensures _ c.in_ok-counts.was

pub returns-in_err-counts : goal.returns-in_err-counts
returns-in_err-counts c =
    let p = err_from_is_err_and c.from_residual.result c.from_residual.ensures.1 in
    rw (p.1, p.2) (check-refused _ _ _ _ _ _ _ c.requires.0 c.requires.1 c.requires.2 c.judge_in.ensures _ c.in_err-counts.was)
