use Rattle.judge_texts.proofs.Answers.{define-early, define-free, define-many, define-over, define-there, define-wide}
use Rattle.judge_texts.proofs.definitions.definition_cause.Goals as goal

pub returns-then-out_of_order : goal.returns-then-out_of_order
returns-then-out_of_order c = search define-early

pub returns-then-c-ge-DEFINITIONS : goal.returns-then-c-ge-DEFINITIONS
returns-then-c-ge-DEFINITIONS c = search define-many

pub returns-then-d-gt-ARITY : goal.returns-then-d-gt-ARITY
returns-then-d-gt-ARITY c = search define-wide

pub returns-then-is_none : goal.returns-then-is_none
returns-then-is_none c = search define-over

pub returns-then-is_some : goal.returns-then-is_some
returns-then-is_some c = search define-there

pub returns : goal.returns
returns c = search define-free
