-- `expansion::refuse_size`.
use Rattle.queries.proofs.Extending.{expand-wrong-size}
use Rattle.queries.proofs.expansion.refuse_size.Goals as goal

pub returns : goal.returns
returns c = search expand-wrong-size
