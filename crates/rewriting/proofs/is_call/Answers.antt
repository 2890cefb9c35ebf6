use Rattle.rewriting.proofs.Cases.{same_number}
use Rattle.rewriting.proofs.is_call.Goals as goal

pub returns-in-Call : goal.returns-in-Call
returns-in-Call c = search same_number
