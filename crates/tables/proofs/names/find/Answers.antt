-- `names::find`: by the table, or by a search.
use Rattle.tables.proofs.Naming.{by-table}
use borrow.Author.Rules.{rules}
use Rattle.tables.proofs.names.find.Goals as goal

pub returns : goal.returns
returns c = search (by-table, rules)
