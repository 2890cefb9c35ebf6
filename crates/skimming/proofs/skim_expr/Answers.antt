-- `skim_expr`: one argument.
use Rattle.skimming.proofs.Walking.{one-alone}
use Rattle.skimming.proofs.skim_expr.Goals as goal

pub returns : goal.returns
returns c = search one-alone
