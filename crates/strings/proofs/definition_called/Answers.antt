use Rattle.strings.proofs.Cases.{called-arm}
use Rattle.strings.proofs.definition_called.Goals as goal

pub returns-in-Call : goal.returns-in-Call
returns-in-Call c = search called-arm
