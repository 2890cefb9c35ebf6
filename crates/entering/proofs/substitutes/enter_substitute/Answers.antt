-- `substitutes::enter_substitute`: the declaration found has its form, or nothing has changed.
use Rattle.entering.proofs.Substituting.{added-one, added_none}
use Rattle.entering.proofs.substitutes.enter_substitute.Goals as goal

pub returns-in-Some : goal.returns-in-Some
returns-in-Some c = search added-one

pub returns-in_default : goal.returns-in_default
returns-in_default c = search added_none
