use Rattle.context.proofs.Answers.{name-declared, name-undeclared}
use Rattle.context.proofs.lookup.declares_name.Goals as goal

pub returns-then-is_declared : goal.returns-then-is_declared
returns-then-is_declared c = search name-declared

pub returns : goal.returns
returns c = search name-undeclared
