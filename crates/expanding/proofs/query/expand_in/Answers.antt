-- `query::expand_in`: memory to work in.
use borrow.Author.Rules.{rules}
use Rattle.expanding.proofs.query.expand_in.Goals as goal

pub expand_with-requires : goal.expand_with-requires
expand_with-requires c = (search rules, search rules, search rules, search rules, search rules, search rules, search rules)
