-- `reading::level_above`: what is left to look at decides.
use mathlib.Core.Path.{refl}
use Rattle.asking.proofs.Levels.{above-found, above-next, above-none}
use Rattle.asking.proofs.reading.level_above.Goals as goal

pub loop-i-init : goal.loop-i-init
loop-i-init c = refl

pub returns-then-levels-i : goal.returns-then-levels-i
returns-then-levels-i c = search above-found

pub loop-i-preserved : goal.loop-i-preserved
loop-i-preserved c = search above-next

pub returns : goal.returns
returns c = search above-none
