use Rattle.queries.proofs.Asking.{level-answered}
use Rattle.queries.proofs.level.Goals as goal

pub returns : goal.returns
returns c = search level-answered
