use mathlib.Core.Path.{refl}
use Rattle.context.proofs.Search.{under-end, under-hit, under_next}
use Rattle.context.proofs.lists.find_under.Goals as goal

pub loop-i-init : goal.loop-i-init
loop-i-init c = refl

pub returns-then-stands_under : goal.returns-then-stands_under
returns-then-stands_under c = search under-hit

pub loop-i-preserved : goal.loop-i-preserved
loop-i-preserved c = search under_next

pub returns : goal.returns
returns c = search under-end
