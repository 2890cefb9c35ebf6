-- `numbering::enter_number`: what was read is stored.
use Rattle.entering.proofs.Entering.{set_at}
use Rattle.entering.proofs.numbering.enter_number.Goals as goal

pub returns : goal.returns
returns c = search set_at
