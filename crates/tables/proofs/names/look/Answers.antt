-- `names::look`: only names are looked up.
use Rattle.resolve.proofs.Looking.{at_bound, at-built-in, at_literal, at-parameter}
use Rattle.tables.proofs.Naming.{look-instance, look-name}
use Rattle.tables.proofs.names.look.Goals as goal

pub returns-in-Parameter : goal.returns-in-Parameter
returns-in-Parameter c = search at-parameter

pub returns-in-Bound : goal.returns-in-Bound
returns-in-Bound c = search at_bound

pub returns-in-Name : goal.returns-in-Name
returns-in-Name c = search look-name

pub returns-in-InstanceOperator : goal.returns-in-InstanceOperator
returns-in-InstanceOperator c = search look-instance

pub returns-in-BuiltIn : goal.returns-in-BuiltIn
returns-in-BuiltIn c = search at-built-in

pub returns-in-Literal : goal.returns-in-Literal
returns-in-Literal c = search at_literal
