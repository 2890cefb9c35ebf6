use Rattle.queries.proofs.Asking.{ask-wrong-size}
use Rattle.queries.proofs.refuse_size.Goals as goal

pub returns : goal.returns
returns c = search ask-wrong-size
