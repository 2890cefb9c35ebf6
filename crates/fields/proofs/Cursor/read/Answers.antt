use Rattle.fields.proofs.Steps.{step_end, step-ended}
use Rattle.fields.proofs.Cursor.read.Goals as goal

pub returns-then-s-self : goal.returns-then-s-self
returns-then-s-self c = search step_end

pub returns-then-s-self-2 : goal.returns-then-s-self-2
returns-then-s-self-2 c = search step-ended
