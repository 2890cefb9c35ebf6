use Rattle.strings.proofs.Cases.{counted-all, counted-few}
use Rattle.strings.proofs.set_bits.Goals as goal

pub returns : goal.returns
returns c = (search counted-all, search counted-few)
