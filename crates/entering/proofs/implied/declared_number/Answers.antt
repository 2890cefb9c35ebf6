-- `implied::declared_number`: a case for each test.
use Rattle.entering.proofs.Implying.{number-declared, number-large, number-other}
use borrow.Author.Rules.{rules}
use Rattle.entering.proofs.implied.declared_number.Goals as goal

pub returns-then-d-lt-DECLARATIONS : goal.returns-then-d-lt-DECLARATIONS
returns-then-d-lt-DECLARATIONS c = (search number-declared, search rules)

pub returns-then-is_declared : goal.returns-then-is_declared
returns-then-is_declared c = (search number-large, search rules)

pub returns : goal.returns
returns c = (search number-other, search rules)
