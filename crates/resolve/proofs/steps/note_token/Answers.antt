use Rattle.resolve.proofs.Walking.{noted-name, noted_other}
use Rattle.resolve.proofs.steps.note_token.Goals as goal

pub returns-then-is_name : goal.returns-then-is_name
returns-then-is_name c = search noted-name

pub returns : goal.returns
returns c = search noted_other
