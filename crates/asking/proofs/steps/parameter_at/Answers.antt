-- `steps::parameter_at`: a parameter, known or not.
use mathlib.Core.Path.{refl}
use Rattle.asking.proofs.Stepping.{parameter-at}
use Rattle.asking.proofs.steps.parameter_at.Goals as goal

pub returns : goal.returns
returns c = parameter-at _ _ _ _ _ _ _ _ _ _ _ refl c.both.ensures c.parameter_step-x.ensures c.beside.ensures
