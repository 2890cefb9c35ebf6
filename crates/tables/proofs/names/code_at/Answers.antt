-- `names::code_at`: 0 stands for none.
use Rattle.tables.proofs.Naming.{entry-none, entry-some}
use Rattle.tables.proofs.names.code_at.Goals as goal

pub returns-then-place-eq0 : goal.returns-then-place-eq0
returns-then-place-eq0 c = search entry-none

pub returns : goal.returns
returns c = search entry-some
