use Rattle.resolve.proofs.Walking.{binds-code}
use Rattle.resolve.proofs.steps.binds.Goals as goal

pub returns-in-BuiltIn : goal.returns-in-BuiltIn
returns-in-BuiltIn c = search binds-code
