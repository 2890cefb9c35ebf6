-- `empty::itself`: the highest of the arguments, or level 1.
use Rattle.entering.proofs.Standing.{itself-constant, itself-variable}
use borrow.Author.Rules.{rules}
use Rattle.entering.proofs.empty.itself.Goals as goal

pub returns-then-k-le-ARITY : goal.returns-then-k-le-ARITY
returns-then-k-le-ARITY c = search (rules, itself-constant)

pub returns : goal.returns
returns c = search (rules, itself-variable)
