use Rattle.tokens.proofs.Places.{past}
use Rattle.levels.proofs.names.form_at.Goals as goal

pub returns-else-g-words : goal.returns-else-g-words
returns-else-g-words c = search past
