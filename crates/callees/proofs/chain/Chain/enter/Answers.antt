-- `Chain::enter`.
use mathlib.Core.Path.{◌∙◌, sym}
use native.Mathlib.Omega.{arith}
use Rattle.callees.proofs.Going.{upto-last, upto-start, upto_turn, upto-whole}
use borrow.Author.Rules.{rules}
use Rattle.callees.proofs.chain.Chain.enter.Goals as goal

pub loop-l-init : goal.loop-l-init
loop-l-init c = upto-start _ _ _ _ _ c.start.new.self.sized (search rules) c.start.ensures

pub returns-then-not-step_fits : goal.returns-then-not-step_fits
returns-then-not-step_fits c = upto-whole _ _ _ _ _ _ c.loop-l.invariant (λ h. sym c.step_fits.ensures ∙ c.if-not-step_fits.true)

pub loop-l-preserved : goal.loop-l-preserved
loop-l-preserved c = upto_turn _ _ _ _ _ _ c.loop-l.invariant _ _ _ (search rules) (sym c.step_fits.ensures ∙ c.if-not-step_fits.false)
    c.enter_level.ensures c.enter_level.new.self.sized

pub returns : goal.returns
returns c = upto-last _ _ _ _ _ _ c.loop-l.invariant (omega arith)
