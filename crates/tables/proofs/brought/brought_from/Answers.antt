-- `brought::brought_from`: the first of the name, if it is among what was brought and stands under the instance.
use Rattle.tables.proofs.Bringing.{under_first, under-past}
use borrow.Author.Rules.{rules}
use Rattle.tables.proofs.brought.brought_from.Goals as goal

pub returns-then-b-g : goal.returns-then-b-g
returns-then-b-g c = search (under-past, rules)

pub returns-then-stands_under : goal.returns-then-stands_under
returns-then-stands_under c = search (under_first, rules)
