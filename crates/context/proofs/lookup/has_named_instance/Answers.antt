use Rattle.context.proofs.Answers.{instance-there}
use Rattle.context.proofs.lookup.has_named_instance.Goals as goal

pub returns : goal.returns
returns c = search instance-there
