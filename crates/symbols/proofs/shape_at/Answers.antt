use mathlib.Core.Path.{sym}
use lib.ListN.{get_or-eq_default}
use Rattle.symbols.proofs.shape_at.Goals as goal

pub returns-else-n-shapes : goal.returns-else-n-shapes
returns-else-n-shapes c = sym (get_or-eq_default c.args.shapes.now 0 c.if-n-shapes.false)
