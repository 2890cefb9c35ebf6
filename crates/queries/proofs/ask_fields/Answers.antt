use borrow.Author.Rules.{rules}
use Rattle.queries.proofs.ask_fields.Goals as goal

pub ask_in-requires : goal.ask_in-requires
ask_in-requires c = (search rules, search rules, search rules, search rules, search rules)
