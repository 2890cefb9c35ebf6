use Rattle.queries.proofs.Asking.{alike-answered}
use Rattle.queries.proofs.alike.Goals as goal

pub returns : goal.returns
returns c = search alike-answered
