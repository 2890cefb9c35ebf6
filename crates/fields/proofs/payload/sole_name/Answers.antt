use Rattle.fields.proofs.Payloads.{name-size, name-there}
use Rattle.fields.proofs.payload.sole_name.Goals as goal

pub returns-then-p-eq2 : goal.returns-then-p-eq2
returns-then-p-eq2 c = search name-there

pub returns-else-p-eq2 : goal.returns-else-p-eq2
returns-else-p-eq2 c = search name-size
