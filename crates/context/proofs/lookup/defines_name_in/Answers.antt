use Rattle.context.proofs.Answers.{defined-there, no-definition}
use Rattle.context.proofs.lookup.defines_name_in.Goals as goal

pub returns-then-g-ge-DEFINITIONS : goal.returns-then-g-ge-DEFINITIONS
returns-then-g-ge-DEFINITIONS c = search no-definition

pub returns : goal.returns
returns c = search defined-there
