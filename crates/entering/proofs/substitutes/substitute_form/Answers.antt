-- `substitutes::substitute_form`: what is written, or what is implied.
use Rattle.entering.proofs.Substituting.{stands-written, stands-implied}
use Rattle.entering.proofs.substitutes.substitute_form.Goals as goal

pub returns-in-Some : goal.returns-in-Some
returns-in-Some c = search stands-written

pub returns-in-None : goal.returns-in-None
returns-in-None c = search stands-implied
