use Rattle.spelling.proofs.Heading.{shape-kept, shape-none}
use borrow.Author.Rules.{rules}
use Rattle.spelling.proofs.heads.valid_shape_at.Goals as goal

pub returns-then-h-lt-LIMIT : goal.returns-then-h-lt-LIMIT
returns-then-h-lt-LIMIT c = search (rules, shape-kept)

pub returns-else-h-lt-LIMIT : goal.returns-else-h-lt-LIMIT
returns-else-h-lt-LIMIT c = search (rules, shape-none)
