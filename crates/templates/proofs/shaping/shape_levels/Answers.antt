-- `shaping::shape_levels`: the stand-ins of numbers below m have their shapes.
use Rattle.templates.proofs.Storing.{storing-end, storing-start, storing-turn}
use borrow.Author.Rules.{rules}
use Rattle.templates.proofs.shaping.shape_levels.Goals as goal

pub loop-m-init : goal.loop-m-init
loop-m-init c = search (rules, storing-start)

pub next_shape-h-requires : goal.next_shape-h-requires
next_shape-h-requires c = (search rules, search rules, search rules, search rules, search rules)

pub loop-m-preserved : goal.loop-m-preserved
loop-m-preserved c = (storing-turn _ _ _ _ _ _ _ _ _ _ _ _ _ c.loop-m.invariant.0 (search rules) c.next_shape-h.ensures, search rules)

pub returns : goal.returns
returns c = search (rules, storing-end)
