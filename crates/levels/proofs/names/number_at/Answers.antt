use Rattle.tokens.proofs.Places.{past}
use Rattle.levels.proofs.names.number_at.Goals as goal

pub returns-else-i-t : goal.returns-else-i-t
returns-else-i-t c = search past
