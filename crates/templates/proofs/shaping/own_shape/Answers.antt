-- `shaping::own_shape`.
use Rattle.templates.proofs.Storing.{own-shaped}
use borrow.Author.Rules.{rules}
use Rattle.templates.proofs.shaping.own_shape.Goals as goal

pub returns : goal.returns
returns c = own-shaped _ _ _ _ _ _ _ _ _ _ _ _ _ _ (search rules) c.own_string-tlen.ensures (search rules) (search rules) c.shape_of.ensures
    c.kept_shape.ensures
