-- `making::take_all`: the string is that of a term on the way.
use native.Mathlib.Omega.{arith}
use Rattle.templates.proofs.Taking.{underway-end, underway-no, underway-start, underway-turn}
use borrow.Author.Rules.{rules}
use Rattle.templates.proofs.making.take_all.Goals as goal

pub loop-h-init : goal.loop-h-init
loop-h-init c = (underway-start _ _ _ _ _ _ _ _ _ _ _ (omega (arith, c.requires.2, c.requires.3)) c.highest_number-h.ensures.0 c.highest_number-h.ensures.1, search rules, search rules, search rules)

pub loop-h-smaller : goal.loop-h-smaller
loop-h-smaller c = c.take_step.ensures.less _ c.in_ok-t.was

pub loop-h-preserved : goal.loop-h-preserved
loop-h-preserved c = (underway-turn _ _ _ _ _ _ _ _ _ _ _ _ _ c.loop-h.invariant.0 _ _ c.take_step.ensures _ c.in_ok-t.was, omega (arith, c.loop-h.invariant.1), omega (arith, c.loop-h.invariant.2), omega (arith, c.loop-h.invariant.3))

pub shape_of-text-in_err-t : goal.shape_of-text-in_err-t
shape_of-text-in_err-t c = search (rules, c.loop-h.invariant.1, c.requires.0)

pub shape_of-filled-in_err-t : goal.shape_of-filled-in_err-t
shape_of-filled-in_err-t c = search (rules, c.loop-h.invariant.2, c.requires.1)

pub returns-in_err-t : goal.returns-in_err-t
returns-in_err-t c = underway-no _ _ _ _ _ _ _ _ _ _ _ _ _ c.loop-h.invariant.0 _ _ c.take_step.ensures c.in_err-t.was _ c.from_residual.ensures

pub returns : goal.returns
returns c = underway-end _ _ _ _ _ _ _ _ _ _ _ _ _ c.loop-h.invariant.0 (search rules)
