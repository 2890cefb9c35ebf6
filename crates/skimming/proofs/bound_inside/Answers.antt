-- `bound_inside`: only a built-in binds.
use Rattle.skimming.proofs.Walking.{in-bound, in-built-in, in-instance, in-literal, in-name, in-parameter}
use Rattle.skimming.proofs.bound_inside.Goals as goal

pub returns-in-Parameter : goal.returns-in-Parameter
returns-in-Parameter c = search in-parameter

pub returns-in-Bound : goal.returns-in-Bound
returns-in-Bound c = search in-bound

pub returns-in-Name : goal.returns-in-Name
returns-in-Name c = search in-name

pub returns-in-InstanceOperator : goal.returns-in-InstanceOperator
returns-in-InstanceOperator c = search in-instance

pub returns-in-BuiltIn : goal.returns-in-BuiltIn
returns-in-BuiltIn c = search in-built-in

pub returns-in-Literal : goal.returns-in-Literal
returns-in-Literal c = search in-literal
