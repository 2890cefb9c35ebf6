-- `head`: what the name means, and the causes.
use Rattle.skimming.proofs.Walking.{heads}
use Rattle.skimming.proofs.head.Goals as goal

pub returns : goal.returns
returns c = search heads
