-- `steps::over`: what the name means, its level, and the causes.
use Rattle.asking.proofs.Stepping.{over-is, over-lost}
use borrow.Author.Rules.{rules}
use Rattle.asking.proofs.steps.over.Goals as goal

pub returns-in_err-y : goal.returns-in_err-y
returns-in_err-y c = rw c.from_residual.ensures (over-lost _ _ _ _ _ _ _ c.in_err-y.ensures)

pub returns : goal.returns
returns c = search (rules, over-is, c.in_ok-y.ensures)
