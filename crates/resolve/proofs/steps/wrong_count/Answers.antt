use Rattle.resolve.proofs.Walking.{wrong-count}
use Rattle.resolve.proofs.steps.wrong_count.Goals as goal

pub returns-in-Some : goal.returns-in-Some
returns-in-Some c = search wrong-count
