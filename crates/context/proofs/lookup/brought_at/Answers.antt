use Rattle.context.proofs.Answers.{at-instance, not-brought, not-instance}
use Rattle.context.proofs.lookup.brought_at.Goals as goal

pub returns-then-c-lt-DEFINITIONS : goal.returns-then-c-lt-DEFINITIONS
returns-then-c-lt-DEFINITIONS c = search not-brought

pub returns-then-kind_at-lt-INSTANCE : goal.returns-then-kind_at-lt-INSTANCE
returns-then-kind_at-lt-INSTANCE c = search not-instance

pub returns : goal.returns
returns c = search at-instance
