use Rattle.streaming.proofs.HereCases.{wide-var}
use Rattle.streaming.proofs.here.shifts_wide.Goals as goal

pub returns-in-Var : goal.returns-in-Var
returns-in-Var c = search wide-var
