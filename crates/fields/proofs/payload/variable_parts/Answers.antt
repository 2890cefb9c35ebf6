use Rattle.fields.proofs.Payloads.{variable-cut, variable-there}
use Rattle.fields.proofs.payload.variable_parts.Goals as goal

pub returns-in-Some : goal.returns-in-Some
returns-in-Some c = search variable-there

pub returns-in-None : goal.returns-in-None
returns-in-None c = search variable-cut
