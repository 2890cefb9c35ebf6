-- `brought::nearest`: one test.
use Rattle.tables.proofs.Bringing.{nearest-after, nearest-here}
use borrow.Author.Rules.{rules}
use Rattle.tables.proofs.brought.nearest.Goals as goal

pub returns-then-name-name_at : goal.returns-then-name-name_at
returns-then-name-name_at c = search (nearest-here, rules)

pub returns-else-name-name_at : goal.returns-else-name-name_at
returns-else-name-name_at c = search (nearest-after, rules)
