-- `steps::any_step`: too many arguments, a token, or none.
use Rattle.tokens.proofs.Places.{fits}
use Rattle.asking.proofs.Stepping.{any-count, any-nothing, any-token}
use borrow.Author.Rules.{rules}
use Rattle.asking.proofs.steps.any_step.Goals as goal

pub returns-then-arguments_in : goal.returns-then-arguments_in
returns-then-arguments_in c = search (any-count, rules, c.in_ok-t.was)

pub overflow_add-next : goal.overflow_add-next
overflow_add-next c = search (fits, c.in_ok-t.was)

pub returns : goal.returns
returns c = search (rules, any-token, c.in_ok-t.was)

pub returns-in_err-t : goal.returns-in_err-t
returns-in_err-t c = rw c.from_residual.ensures (search (rules, any-nothing, c.in_err-t.was))
