-- `shaping::standin_shape`.
use mathlib.Core.Path.{refl}
use Rattle.templates.proofs.Storing.{standin-shaped}
use borrow.Author.Rules.{rules}
use Rattle.templates.proofs.shaping.standin_shape.Goals as goal

pub returns : goal.returns
returns c = standin-shaped _ _ _ _ _ _ _ _ _ _ _ _ _ _ _ _ (search rules) refl refl c.standin_string-tlen.ensures (search rules) (search rules) c.shape_of.ensures
    c.kept_shape.ensures
