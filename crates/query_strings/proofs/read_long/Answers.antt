-- `read_long`: the tables filled.
use Rattle.tables.proofs.Naming.{zeroed}
use borrow.Author.Rules.{rules}
use Rattle.query_strings.proofs.read_long.Goals as goal

pub fill-requires : goal.fill-requires
fill-requires c = (search rules, zeroed 262144, search rules, search rules, search rules)
