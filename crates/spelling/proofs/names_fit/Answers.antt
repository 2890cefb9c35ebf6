use mathlib.Core.Path.{subst}
use Rattle.spelling.specs.Strings.{NumbersFit}
use Rattle.spelling.proofs.names_fit.Goals as goal

pub returns : goal.returns
returns c = subst NumbersFit c.names.ensures c.numbers_fit.ensures
