-- `brought::told`: its number, then its name.
use Rattle.tables.proofs.Bringing.{told_below, told_here, told-other}
use borrow.Author.Rules.{rules}
use Rattle.tables.proofs.brought.told.Goals as goal

pub returns-then-o-s : goal.returns-then-o-s
returns-then-o-s c = search (told_below, rules)

pub returns-then-name-name_at : goal.returns-then-name-name_at
returns-then-name-name_at c = search (told_here, rules)

pub returns-else-name-name_at : goal.returns-else-name-name_at
returns-else-name-name_at c = search (told-other, rules)
