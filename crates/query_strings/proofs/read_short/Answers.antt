-- `read_short`: no tables, and the column.
use Rattle.tables.proofs.Filling.{none-serve}
use borrow.Author.Rules.{rules}
use Rattle.query_strings.proofs.read_short.Goals as goal

pub read_with-requires : goal.read_with-requires
read_with-requires c = search (rules, none-serve)
