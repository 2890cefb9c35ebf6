use Rattle.fields.proofs.Payloads.{constant-size, constant-there, constant-zero}
use Rattle.fields.proofs.payload.constant_parts.Goals as goal

pub returns-then-n-eq0 : goal.returns-then-n-eq0
returns-then-n-eq0 c = search (constant-there, constant-zero, constant-size)

pub returns-else-n-eq0 : goal.returns-else-n-eq0
returns-else-n-eq0 c = search (constant-there, constant-zero, constant-size)

pub returns-else-p-eq3 : goal.returns-else-p-eq3
returns-else-p-eq3 c = search (constant-there, constant-zero, constant-size)
