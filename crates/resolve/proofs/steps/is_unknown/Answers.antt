use Rattle.resolve.proofs.Walking.{unknown-parameter, unknown-bound}
use Rattle.resolve.proofs.steps.is_unknown.Goals as goal

pub returns-in-Parameter : goal.returns-in-Parameter
returns-in-Parameter c = search unknown-parameter

pub returns-in-Bound : goal.returns-in-Bound
returns-in-Bound c = search unknown-bound
