use Rattle.context.proofs.Answers.{module-found}
use Rattle.context.proofs.lookup.find_module.Goals as goal

pub returns : goal.returns
returns c = search module-found
