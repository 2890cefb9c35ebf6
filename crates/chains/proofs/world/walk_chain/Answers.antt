-- `world::walk_chain`: the tables show the world of the instances met so far.
use mathlib.Core.Path.{◌∙◌, sym}
use Rattle.chains.proofs.Along.{along-start, along-turn, along-whole, step_less}
use borrow.Author.Rules.{rules}
use Rattle.chains.proofs.world.walk_chain.Goals as goal

pub loop-numbers-init : goal.loop-numbers-init
loop-numbers-init c = search (rules, along-start)

pub enter_step-requires : goal.enter_step-requires
enter_step-requires c = (search rules, search rules, search rules, cc)

pub outer_after-outer-requires : goal.outer_after-outer-requires
outer_after-outer-requires c = (search rules, search rules, cc)

pub loop-numbers-smaller : goal.loop-numbers-smaller
loop-numbers-smaller c = step_less _ _ _ _ c.source_of-cur.ensures (sym c.step_fits.ensures ∙ c.loop-numbers-test.true)

pub loop-numbers-preserved : goal.loop-numbers-preserved
loop-numbers-preserved c = along-turn _ _ _ _ _ _ _ _ _ _ _ c.loop-numbers.invariant _ _ _ _ c.enter_step.ensures
    (sym c.step_fits.ensures ∙ c.loop-numbers-test.true) c.outer_after-outer.ensures c.source_of-cur.ensures

pub returns : goal.returns
returns c = along-whole _ _ _ _ _ _ _ _ _ _ _ c.loop-numbers.invariant _ _ (sym c.step_fits.ensures ∙ c.loop-numbers-test.false)
    c.text_form.ensures c.text_of.ensures
