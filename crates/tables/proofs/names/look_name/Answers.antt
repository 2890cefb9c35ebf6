use Rattle.tables.proofs.Naming.{name-code, no_name}
use Rattle.tables.proofs.names.look_name.Goals as goal

pub returns-in_err-x : goal.returns-in_err-x
returns-in_err-x c = rw c.from_residual.ensures (search (no_name, c.in_err-x.was))

pub returns : goal.returns
returns c = search (name-code, c.in_ok-x.was)
