use Rattle.rows.proofs.Numbers.{row-binder}
use Rattle.rows.proofs.binder.Goals as goal

pub returns : goal.returns
returns c = search row-binder
