-- `chain::read_row`.
use mathlib.Core.Path.{◌∙◌}
use Rattle.callees.proofs.Rowing.{row-between}
use Rattle.callees.proofs.chain.read_row.Goals as goal

pub returns : goal.returns
returns c = c.copy_from_slice.ensures.after ∙ row-between c.args.numbers.now c.args.l
