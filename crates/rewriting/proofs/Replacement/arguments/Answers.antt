use borrow.Author.Rules.{rules}
use Rattle.rewriting.proofs.Bounding.{bounding-end, bounding-here, bounding-long, bounding-next, bounding-start, bounding-turn}
use Rattle.rewriting.proofs.Replacement.arguments.Goals as goal

pub loop-i-init : goal.loop-i-init
loop-i-init c = search bounding-start

pub bounds-bounds-i : goal.bounds-bounds-i
bounds-bounds-i c = search (rules, bounding-here)

pub offset_bounds-bounds-i-in-loop-i : goal.offset_bounds-bounds-i-in-loop-i
offset_bounds-bounds-i-in-loop-i c = search (rules, bounding-next)

pub bounds-bounds-i-in-loop-i : goal.bounds-bounds-i-in-loop-i
bounds-bounds-i-in-loop-i c = search (rules, bounding-next)

pub loop-i-preserved : goal.loop-i-preserved
loop-i-preserved c = search bounding-turn

pub shape_of-bounds : goal.shape_of-bounds
shape_of-bounds c = search (rules, bounding-long)

pub returns : goal.returns
returns c = search bounding-end
