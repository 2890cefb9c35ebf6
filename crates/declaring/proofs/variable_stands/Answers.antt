-- `variable_stands`: refused, or noted.
use Rattle.declaring.proofs.Judged.{context_room, few-lawful, variable-lawful, variable-refused}
use borrow.Author.Rules.{rules}
use Rattle.declaring.proofs.variable_stands.Goals as goal

pub variable_field-r-requires : goal.variable_field-r-requires
variable_field-r-requires c = search (rules, context_room)

pub returns-then-r-ne0 : goal.returns-then-r-ne0
returns-then-r-ne0 c = search (rules, variable-refused)

pub put_itself-requires : goal.put_itself-requires
put_itself-requires c = search (rules, few-lawful)

pub returns : goal.returns
returns c = search (rules, variable-lawful)
