-- `expansion::expand_in`: the store shows the state that the file leads to.
use Rattle.std.proofs.lemmas.Result.{err_from_is_err_and}
use Rattle.queries.proofs.Asking.{bounded}
use Rattle.queries.proofs.Extending.{expand-answered, expand-refused}
use borrow.Author.Rules.{rules}
use Rattle.queries.proofs.expansion.expand_in.Goals as goal

pub expand_reply-requires : goal.expand_reply-requires
expand_reply-requires c = let b = bounded _ _ _ _ _ _ _ c.judge_in.ensures _ c.in_ok-counts.was in (b.0, search rules, b.1)

pub returns : goal.returns
returns c = expand-answered _ _ _ _ _ _ _ _ _ _ _ c.requires.0 c.requires.1 c.requires.2 c.judge_in.ensures _ _ _ c.in_ok-counts.was c.expand_reply.ensures

pub returns-in_err-counts : goal.returns-in_err-counts
returns-in_err-counts c =
    let p = err_from_is_err_and c.from_residual.result c.from_residual.ensures.1 in
    rw (p.1, p.2) (expand-refused c.args.module c.args.params c.args.expr.now _ _ _ _ _ _ _ _ c.requires.0 c.requires.1 c.requires.2 c.judge_in.ensures _ c.in_err-counts.was)
