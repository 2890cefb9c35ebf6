use Rattle.rewriting.proofs.Cases.{carry-done}
use Rattle.rewriting.proofs.carry.Goals as goal

pub returns : goal.returns
returns c = search carry-done
