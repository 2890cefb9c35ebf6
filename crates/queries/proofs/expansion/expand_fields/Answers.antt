-- `expansion::expand_fields`: an empty store.
use borrow.Author.Rules.{rules}
use Rattle.queries.proofs.expansion.expand_fields.Goals as goal

pub expand_in-requires : goal.expand_in-requires
expand_in-requires c = (search rules, search rules, search rules, search rules, search rules)
