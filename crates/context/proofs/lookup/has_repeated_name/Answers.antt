use Rattle.context.proofs.Answers.{repeated-there}
use Rattle.context.proofs.lookup.has_repeated_name.Goals as goal

pub returns : goal.returns
returns c = search repeated-there
