use Rattle.strings.proofs.Cases.{shape-mask, shape-none, shape_one}
use borrow.Author.Rules.{rules}
use Rattle.strings.proofs.shape_wants.Goals as goal

pub returns-then-h-lt-ALONE : goal.returns-then-h-lt-ALONE
returns-then-h-lt-ALONE c = (search shape-mask, search rules)

pub returns-then-h-lt-LIMIT : goal.returns-then-h-lt-LIMIT
returns-then-h-lt-LIMIT c = (search shape_one, search rules)

pub returns-else-h-lt-LIMIT : goal.returns-else-h-lt-LIMIT
returns-else-h-lt-LIMIT c = (search shape-none, search rules)
