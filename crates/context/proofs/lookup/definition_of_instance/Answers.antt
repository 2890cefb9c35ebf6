use Rattle.context.proofs.Answers.{between}
use Rattle.context.proofs.lookup.definition_of_instance.Goals as goal

pub returns : goal.returns
returns c = search between
