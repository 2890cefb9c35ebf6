use Rattle.context.proofs.Parts.{past}
use Rattle.context.proofs.lists.number_at.Goals as goal

pub returns-else-i-xs : goal.returns-else-i-xs
returns-else-i-xs c = search past
