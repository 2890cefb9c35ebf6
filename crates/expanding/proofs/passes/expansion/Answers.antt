-- `passes::expansion`: each turn replaces the highest definition that is called, so that the next is below it.
use borrow.Author.Rules.{rules}
use Rattle.expanding.proofs.Looping.{going_end, going_on, going-short, going_start}
use Rattle.expanding.proofs.passes.expansion.Goals as goal

pub loop-k-init : goal.loop-k-init
loop-k-init c = (search (rules, going_start), search rules, search rules)

pub loop-k-preserved : goal.loop-k-preserved
loop-k-preserved c = (
  going_on _ _ _ _ _ _ _ _ _ _ _ c.loop-k.invariant.0 c.loop-k-test.true _ _ c.replace_calls.ensures _ c.in_ok-size.was (search rules) _ c.highest_call-c.ensures _ (search rules),
  search rules,
  search rules,
)

pub returns-in_err-size : goal.returns-in_err-size
returns-in_err-size c = search (rules, going-short, c.in_err-size.was)

pub returns : goal.returns
returns c = search (rules, going_end)
