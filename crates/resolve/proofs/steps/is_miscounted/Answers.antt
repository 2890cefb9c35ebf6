use Rattle.resolve.proofs.Walking.{miscounted-name, miscounted-instance}
use Rattle.resolve.proofs.steps.is_miscounted.Goals as goal

pub returns-in-Name : goal.returns-in-Name
returns-in-Name c = search miscounted-name

pub returns-in-InstanceOperator : goal.returns-in-InstanceOperator
returns-in-InstanceOperator c = search miscounted-instance
