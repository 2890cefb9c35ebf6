use Rattle.judge_plain.proofs.Answers.{arity-over, declaration-early, declaration-over, name_free, name-there}
use Rattle.judge_plain.proofs.declarations.declaration_cause.Goals as goal

pub returns-then-out_of_order : goal.returns-then-out_of_order
returns-then-out_of_order c = search declaration-early

pub returns-then-c-ge-DECLARATIONS : goal.returns-then-c-ge-DECLARATIONS
returns-then-c-ge-DECLARATIONS c = search declaration-over

pub returns-then-arity-gt-ARITY : goal.returns-then-arity-gt-ARITY
returns-then-arity-gt-ARITY c = search arity-over

pub returns-then-is_some : goal.returns-then-is_some
returns-then-is_some c = search name-there

pub returns : goal.returns
returns c = search name_free
