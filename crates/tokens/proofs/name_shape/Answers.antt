use Rattle.tokens.proofs.Shaping.{name-shape}
use Rattle.tokens.proofs.name_shape.Goals as goal

pub returns : goal.returns
returns c = search name-shape
