use Rattle.spelling.proofs.Heading.{headed-bound, headed-built-in, headed-instance, headed-literal, headed-name, headed-parameter}
use Rattle.spelling.proofs.heads.head.Goals as goal

pub returns-in-Parameter : goal.returns-in-Parameter
returns-in-Parameter c = search headed-parameter

pub returns-in-Bound : goal.returns-in-Bound
returns-in-Bound c = search headed-bound

pub returns-in-Name : goal.returns-in-Name
returns-in-Name c = search headed-name

pub returns-in-InstanceOperator : goal.returns-in-InstanceOperator
returns-in-InstanceOperator c = search headed-instance

pub returns-in-BuiltIn : goal.returns-in-BuiltIn
returns-in-BuiltIn c = search headed-built-in

pub returns-in-Literal : goal.returns-in-Literal
returns-in-Literal c = search headed-literal
