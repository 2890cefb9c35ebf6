use Rattle.fields.proofs.Payloads.{definition-cut, definition-short, definition-there, definition-zero}
use Rattle.fields.proofs.payload.definition_parts.Goals as goal

pub returns-then-p-lt3 : goal.returns-then-p-lt3
returns-then-p-lt3 c = search (definition-short, definition-zero, definition-there, definition-cut)

pub returns-then-n-eq0 : goal.returns-then-n-eq0
returns-then-n-eq0 c = search (definition-short, definition-zero, definition-there, definition-cut)

pub returns-then-whole : goal.returns-then-whole
returns-then-whole c = search (definition-short, definition-zero, definition-there, definition-cut)

pub returns-else-whole : goal.returns-else-whole
returns-else-whole c = search (definition-short, definition-zero, definition-there, definition-cut)
