-- `shaping::shape_definition`.
use Rattle.templates.proofs.Defining.{definition-stored}
use native.Mathlib.Omega.{arith}
use borrow.Author.Rules.{rules}
use Rattle.templates.proofs.shaping.shape_definition.Goals as goal

pub own_shape-h-requires : goal.own_shape-h-requires
own_shape-h-requires c = (omega (arith, c.requires.0), omega (arith, c.prepare-k.ensures.few))

pub offset_bounds-shapes-d : goal.offset_bounds-shapes-d
offset_bounds-shapes-d c = search (rules, c.requires.3)

pub bounds-shapes-d : goal.bounds-shapes-d
bounds-shapes-d c = search (rules, c.requires.2, c.requires.3)

pub returns : goal.returns
returns c = definition-stored _ _ _ _ _ _ _ _ _ _ _ _ _ (omega (arith, c.requires.2)) (omega (arith, c.requires.3)) c.prepare-k.ensures
    c.own_shape-h.ensures
