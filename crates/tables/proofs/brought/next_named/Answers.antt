-- `brought::next_named`: a definition of the name, and what its row says.
use Rattle.tables.proofs.Bringing.{next-other, next-told}
use borrow.Author.Rules.{rules}
use Rattle.tables.proofs.brought.next_named.Goals as goal

pub returns-then-name-name_at : goal.returns-then-name-name_at
returns-then-name-name_at c = search (next-other, rules)

pub returns : goal.returns
returns c = search (next-told, rules)
