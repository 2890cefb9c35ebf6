use Rattle.context.proofs.Answers.{definition-there}
use Rattle.context.proofs.lookup.has_defined_name.Goals as goal

pub returns : goal.returns
returns c = search definition-there
