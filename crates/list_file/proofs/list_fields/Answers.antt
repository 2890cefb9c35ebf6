use borrow.Author.Rules.{rules}
use Rattle.list_file.proofs.list_fields.Goals as goal

pub list_in-requires : goal.list_in-requires
list_in-requires c = (search rules, search rules, search rules, search rules)
