use Rattle.fields.proofs.Payloads.{end-size, end-there}
use Rattle.fields.proofs.payload.end_parts.Goals as goal

pub returns-then-p-eq0 : goal.returns-then-p-eq0
returns-then-p-eq0 c = search (end-there, end-size)

pub returns-else-p-eq0 : goal.returns-else-p-eq0
returns-else-p-eq0 c = search (end-there, end-size)
