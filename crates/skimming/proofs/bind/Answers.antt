-- `bind`: one more bound variable, or none.
use Rattle.skimming.proofs.Walking.{in-binder, in-plain}
use Rattle.skimming.proofs.bind.Goals as goal

pub returns-then-binder_of-eq0 : goal.returns-then-binder_of-eq0
returns-then-binder_of-eq0 c = λ code e. search in-plain

pub returns-else-binder_of-eq0 : goal.returns-else-binder_of-eq0
returns-else-binder_of-eq0 c = λ code e. search in-binder
