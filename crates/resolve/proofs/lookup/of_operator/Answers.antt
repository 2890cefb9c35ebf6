use Rattle.resolve.proofs.Looking.{as-constant, as-variable, as-definition, as-unknown}
use Rattle.resolve.proofs.lookup.of_operator.Goals as goal

pub returns-in_err-o : goal.returns-in_err-o
returns-in_err-o c = search (as-unknown, c.in_err-o.was)

pub returns-in-Constant : goal.returns-in-Constant
returns-in-Constant c = search (as-constant, c.in_ok-o.was)

pub returns-in-Variable : goal.returns-in-Variable
returns-in-Variable c = search (as-variable, c.in_ok-o.was)

pub returns-in-Defined : goal.returns-in-Defined
returns-in-Defined c = search (as-definition, c.in_ok-o.was)
