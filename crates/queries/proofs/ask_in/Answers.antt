use Rattle.std.proofs.lemmas.Result.{err_from_is_err_and}
use Rattle.queries.proofs.Asking.{ask-answered, ask-refused, bounded}
use borrow.Author.Rules.{rules}
use Rattle.queries.proofs.ask_in.Goals as goal

pub reply_to-requires : goal.reply_to-requires
reply_to-requires c = let b = bounded _ _ _ _ _ _ _ c.judge_in.ensures _ c.in_ok-counts.was in (b.0, b.1, search rules)

pub returns : goal.returns
returns c = ask-answered _ _ _ _ _ _ _ _ _ _ c.requires.0 c.requires.1 c.requires.2 c.judge_in.ensures _ _ c.in_ok-counts.was c.reply_to.ensures

pub returns-in_err-counts : goal.returns-in_err-counts
returns-in_err-counts c =
    let p = err_from_is_err_and c.from_residual.result c.from_residual.ensures.1 in
    rw (p.1, p.2) (ask-refused _ _ _ _ _ _ _ _ _ _ c.requires.0 c.requires.1 c.requires.2 c.judge_in.ensures _ c.in_err-counts.was)
