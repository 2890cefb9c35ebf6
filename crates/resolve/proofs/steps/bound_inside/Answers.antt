use Rattle.resolve.proofs.Walking.{binds-none, binds-one, inside-some}
use Rattle.resolve.proofs.steps.bound_inside.Goals as goal

pub returns-then-binds-eq0 : goal.returns-then-binds-eq0
returns-then-binds-eq0 c = search (inside-some, binds-none)

pub returns-else-binds-eq0 : goal.returns-else-binds-eq0
returns-else-binds-eq0 c = search (inside-some, binds-one)
