use Rattle.resolve.proofs.Looking.{as-brought, not-brought, nothing-brought}
use Rattle.tables.proofs.names.look_brought.Goals as goal

pub returns-in_err-b : goal.returns-in_err-b
returns-in_err-b c = search (nothing-brought, c.in_err-b.was)

pub returns-then-b-le-DEFINITIONS : goal.returns-then-b-le-DEFINITIONS
returns-then-b-le-DEFINITIONS c = search (as-brought, c.in_ok-b.was)

pub returns-else-b-le-DEFINITIONS : goal.returns-else-b-le-DEFINITIONS
returns-else-b-le-DEFINITIONS c = search (not-brought, c.in_ok-b.was)
