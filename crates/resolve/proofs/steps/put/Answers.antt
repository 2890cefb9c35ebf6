use Rattle.resolve.proofs.Walking.{out-of-table}
use Rattle.resolve.proofs.steps.put.Goals as goal

pub returns-then-refs-at : goal.returns-then-refs-at
returns-then-refs-at c = search out-of-table
