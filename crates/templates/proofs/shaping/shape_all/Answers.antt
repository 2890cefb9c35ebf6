-- `shaping::shape_all`: the shapes of the first d definitions are right.
use Rattle.templates.proofs.Defining.{cleared, defining-end, defining-start, defining-turn}
use native.Mathlib.Omega.{arith}
use borrow.Author.Rules.{rules}
use Rattle.templates.proofs.shaping.shape_all.Goals as goal

pub loop-d-init : goal.loop-d-init
loop-d-init c = (defining-start _ _ _ _ _ _ (cleared _ _ (c.fill.ensures.after (λ y e. e)) c.requires.2), search rules, search rules, search rules)

pub loop-d-preserved : goal.loop-d-preserved
loop-d-preserved c = (defining-turn _ _ _ _ _ _ _ _ c.loop-d.invariant.0 c.shape_definition.ensures, omega (arith, c.loop-d-test), omega (arith, c.loop-d.invariant.2), omega (arith, c.loop-d.invariant.3))

pub returns : goal.returns
returns c = defining-end _ _ _ _ _ _ _ _ c.loop-d.invariant.0 (search rules) (search rules)
