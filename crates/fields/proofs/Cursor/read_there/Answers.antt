use Rattle.fields.proofs.Steps.{step-short, step-over, step-there}
use Rattle.fields.proofs.Cursor.read_there.Goals as goal

pub returns-then-s-at-lt3 : goal.returns-then-s-at-lt3
returns-then-s-at-lt3 c = search step-short

pub returns-then-s-base : goal.returns-then-s-base
returns-then-s-base c = search step-over

pub returns : goal.returns
returns c = search step-there
