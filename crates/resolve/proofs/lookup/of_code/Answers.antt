use Rattle.resolve.proofs.Looking.{code_at, code-absent}
use Rattle.resolve.proofs.lookup.of_code.Goals as goal

pub returns-in_err-x : goal.returns-in_err-x
returns-in_err-x c = search (code-absent, c.in_err-x.was)

pub returns : goal.returns
returns c = search (code_at, c.in_ok-x.was)
