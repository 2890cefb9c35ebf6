-- `shaping::prepare`.
use Rattle.templates.proofs.Defining.{prepared}
use native.Mathlib.Omega.{arith}
use Rattle.templates.proofs.shaping.prepare.Goals as goal

pub shape_standins-requires : goal.shape_standins-requires
shape_standins-requires c = (omega (arith, c.requires.0), omega (arith, c.requires.1), omega (arith, c.enter-k.ensures.few))

pub returns : goal.returns
returns c = prepared _ _ _ _ _ _ _ _ _ _ _ _ c.begin_shapes.ensures c.enter-k.ensures
    c.shape_standins.ensures
