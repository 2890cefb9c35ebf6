use Rattle.replacing.proofs.Rounding.{round-failed, round-none, round-ran}
use Rattle.replacing.proofs.Running.{sized_same}
use borrow.Author.Rules.{rules}
use Rattle.std.proofs.lemmas.Result.{err_from_is_err_and}
use Rattle.replacing.proofs.Replacement.one_round.Goals as goal

pub returns-then-calls-eq0 : goal.returns-then-calls-eq0
returns-then-calls-eq0 c = search (rules, round-none)

pub replace_noted-requires : goal.replace_noted-requires
replace_noted-requires c = search (rules, sized_same)

pub returns-in_err-len : goal.returns-in_err-len
returns-in_err-len c = let p = err_from_is_err_and c.from_residual.result c.from_residual.ensures.1 in rw (p.1, p.2) (search (round-failed, c.in_err-len.was))

pub returns : goal.returns
returns c = search (round-ran, c.in_ok-len.was)
