use Rattle.context.proofs.Answers.{definition-undeclared, field-declared}
use Rattle.context.proofs.lookup.is_declared.Goals as goal

pub returns-then-c-lt-DEFINITIONS : goal.returns-then-c-lt-DEFINITIONS
returns-then-c-lt-DEFINITIONS c = search definition-undeclared

pub returns : goal.returns
returns c = search field-declared
