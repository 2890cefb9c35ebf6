-- `any_step`: no token, too many arguments, or a token that keeps the limits.
use Rattle.tokens.proofs.Places.{fits}
use Rattle.skimming.proofs.Walking.{step_count, step-nothing, step-token}
use Rattle.skimming.proofs.any_step.Goals as goal

pub returns-in_err-t : goal.returns-in_err-t
returns-in_err-t c = rw c.from_residual.ensures (search (step-nothing, c.in_err-t.was))

pub returns-then-k : goal.returns-then-k
returns-then-k c = search (step_count, c.in_ok-t.was)

pub overflow_add-at : goal.overflow_add-at
overflow_add-at c = search (fits, c.in_ok-t.was)

pub returns : goal.returns
returns c = search (step-token, c.in_ok-t.was)
