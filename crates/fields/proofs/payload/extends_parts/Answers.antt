use Rattle.fields.proofs.Payloads.{extends-none, extends-odd, extends-there, extends-zero}
use Rattle.fields.proofs.payload.extends_parts.Goals as goal

pub returns-then-p-eq0 : goal.returns-then-p-eq0
returns-then-p-eq0 c = search (extends-none, extends-odd, extends-there, extends-zero)

pub returns-then-all_named : goal.returns-then-all_named
returns-then-all_named c = search (extends-none, extends-odd, extends-there, extends-zero)

pub returns-else-all_named : goal.returns-else-all_named
returns-else-all_named c = search (extends-none, extends-odd, extends-there, extends-zero)

pub returns-else-p-eq0-2 : goal.returns-else-p-eq0-2
returns-else-p-eq0-2 c = search (extends-none, extends-odd, extends-there, extends-zero)
