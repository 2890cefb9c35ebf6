use Rattle.rows.proofs.Numbers.{row-arity}
use Rattle.rows.proofs.arity.Goals as goal

pub returns : goal.returns
returns c = search row-arity
