use native.Mathlib.Omega.{arith}
use mathlib.Core.Path.{refl}
use Rattle.spelling.proofs.Showing.{implied-string}
use Rattle.spelling.proofs.implied_string.Goals as goal

pub returns : goal.returns
returns c = implied-string _ _ _ _ _ _ _ _ _ _ _ _ _ _ _ _ _ _ _ _ _ _ c.names_fit.ensures (omega arith) refl refl c.named-rest.ensures c.leads-a.ensures
