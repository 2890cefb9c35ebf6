-- `making::take_step`.
use native.Mathlib.Omega.{arith}
use Rattle.templates.proofs.Taking.{step-high, step-short, step-taken}
use borrow.Author.Rules.{rules}
use Rattle.templates.proofs.making.take_step.Goals as goal

pub returns-then-h-highest : goal.returns-then-h-highest
returns-then-h-highest c = step-high _ _ _ _ _ _ _ _ _ _ _ _ _ _ (omega (arith, c.requires.4)) c.take_out.ensures _ _ c.in_ok-len.was
    c.highest_number-highest.ensures.0 c.highest_number-highest.ensures.1 (search rules)

pub returns : goal.returns
returns c = step-taken _ _ _ _ _ _ _ _ _ _ _ _ _ _ (omega (arith, c.requires.4)) c.take_out.ensures _ _ c.in_ok-len.was
    c.highest_number-highest.ensures.0 c.highest_number-highest.ensures.1 (search rules)

pub returns-in_err-len : goal.returns-in_err-len
returns-in_err-len c = step-short _ _ _ _ _ _ _ _ _ _ _ _ _ _ (omega (arith, c.requires.4)) c.take_out.ensures c.in_err-len.was _ c.from_residual.ensures
