use Rattle.fields.proofs.Payloads.{module-cut, module-there}
use Rattle.fields.proofs.payload.module_parts.Goals as goal

pub returns-in-Some : goal.returns-in-Some
returns-in-Some c = search module-there

pub returns-in-None : goal.returns-in-None
returns-in-None c = search module-cut
