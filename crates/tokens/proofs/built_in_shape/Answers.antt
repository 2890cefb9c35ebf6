use Rattle.tokens.proofs.Shaping.{code-shape}
use Rattle.tokens.proofs.built_in_shape.Goals as goal

pub returns : goal.returns
returns c = search code-shape
