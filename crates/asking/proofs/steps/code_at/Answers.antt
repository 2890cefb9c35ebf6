-- `steps::code_at`: a code that there is, or none.
use Rattle.asking.proofs.Stepping.{code_at}
use mathlib.Core.Path.{refl}
use Rattle.asking.proofs.steps.code_at.Goals as goal

pub returns-in_err-x : goal.returns-in_err-x
returns-in_err-x c = rw c.from_residual.ensures c.in_err-x.ensures

pub returns : goal.returns
returns c = code_at _ _ _ _ _ _ _ _ c.in_ok-x.ensures _ _ c.bound_inside-bound.ensures (refl, refl, refl) c.beside.ensures
