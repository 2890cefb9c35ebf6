use Rattle.replacing.proofs.Rounding.{round-first}
use Rattle.replacing.proofs.Replacement.first_round.Goals as goal

pub returns : goal.returns
returns c = search round-first
