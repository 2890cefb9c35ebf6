use Rattle.queries.proofs.Asking.{body-answered}
use Rattle.queries.proofs.body.Goals as goal

pub returns : goal.returns
returns c = search body-answered
