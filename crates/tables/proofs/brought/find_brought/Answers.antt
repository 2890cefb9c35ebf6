-- `brought::find_brought`: by the table, or by a search.
use Rattle.tables.proofs.Bringing.{as_none, as_some, no-count, under_none}
use borrow.Author.Rules.{rules}
use Rattle.tables.proofs.brought.find_brought.Goals as goal

pub returns-then-b-eq0 : goal.returns-then-b-eq0
returns-then-b-eq0 c = search (no-count, rules)

pub brought_from-requires : goal.brought_from-requires
brought_from-requires c = search (as_some, c.in_ok-g.was, rules)

pub returns-in_err-g : goal.returns-in_err-g
returns-in_err-g c = rw c.from_residual.ensures (search (under_none, as_none, c.in_err-g.was, rules))
