-- `names::look_instance`: the code that was found, or none.
use Rattle.tables.proofs.Naming.{instance-code, no-instance}
use Rattle.tables.proofs.names.look_instance.Goals as goal

pub returns-in_err-x : goal.returns-in_err-x
returns-in_err-x c = rw c.from_residual.ensures (search (no-instance, c.in_err-x.was))

pub returns : goal.returns
returns c = search (instance-code, c.in_ok-x.was)
