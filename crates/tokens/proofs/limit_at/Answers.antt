use Rattle.tokens.proofs.Nesting.{limited}
use Rattle.tokens.proofs.limit_at.Goals as goal

pub returns : goal.returns
returns c = search limited
