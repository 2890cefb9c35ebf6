use Rattle.context.proofs.Answers.{entry_found}
use Rattle.context.proofs.lookup.find_entry.Goals as goal

pub returns : goal.returns
returns c = search entry_found
