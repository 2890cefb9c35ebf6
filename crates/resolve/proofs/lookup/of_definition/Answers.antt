use Rattle.resolve.proofs.Looking.{definition}
use Rattle.resolve.proofs.lookup.of_definition.Goals as goal

pub returns : goal.returns
returns c = search definition
