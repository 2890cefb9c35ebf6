use Rattle.strings.proofs.Cases.{wide-var}
use Rattle.strings.proofs.moves_wide.Goals as goal

pub returns-in-Var : goal.returns-in-Var
returns-in-Var c = search wide-var
