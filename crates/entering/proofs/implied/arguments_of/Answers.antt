-- `implied::arguments_of`: a case for each side of the test.
use Rattle.entering.proofs.Implying.{arguments-few, arguments-none}
use borrow.Author.Rules.{rules}
use Rattle.entering.proofs.implied.arguments_of.Goals as goal

pub returns-then-k-le-ARITY : goal.returns-then-k-le-ARITY
returns-then-k-le-ARITY c = (search arguments-few, search rules)

pub returns-else-k-le-ARITY : goal.returns-else-k-le-ARITY
returns-else-k-le-ARITY c = (search arguments-none, search rules)
