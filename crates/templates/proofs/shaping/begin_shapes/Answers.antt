-- `shaping::begin_shapes`: the first i shapes are copied.
use Rattle.templates.proofs.Defining.{beginning-end, beginning-start, beginning-turn}
use borrow.Author.Rules.{rules}
use Rattle.templates.proofs.shaping.begin_shapes.Goals as goal

pub loop-i-init : goal.loop-i-init
loop-i-init c = search (rules, beginning-start)

pub loop-i-preserved : goal.loop-i-preserved
loop-i-preserved c = search (rules, beginning-turn)

pub returns : goal.returns
returns c = search (rules, beginning-end)
