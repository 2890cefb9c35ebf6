use Rattle.context.proofs.Answers.{definition-no-instance, field-instance}
use Rattle.context.proofs.lookup.is_instance.Goals as goal

pub returns-then-c-lt-DEFINITIONS : goal.returns-then-c-lt-DEFINITIONS
returns-then-c-lt-DEFINITIONS c = search definition-no-instance

pub returns : goal.returns
returns c = search field-instance
