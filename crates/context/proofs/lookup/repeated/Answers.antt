use mathlib.Core.Path.{refl}
use Rattle.context.proofs.Repeats.{again, never-again, not-again}
use Rattle.context.proofs.lookup.repeated.Goals as goal

pub loop-i-init : goal.loop-i-init
loop-i-init c = refl

pub returns-then-is_some : goal.returns-then-is_some
returns-then-is_some c = search again

pub loop-i-preserved : goal.loop-i-preserved
loop-i-preserved c = search not-again

pub returns : goal.returns
returns c = search never-again
