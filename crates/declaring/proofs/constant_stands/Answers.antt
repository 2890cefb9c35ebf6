-- `constant_stands`: refused, or noted.
use Rattle.declaring.proofs.Judged.{context_room, few-lawful, constant-lawful, constant-refused}
use borrow.Author.Rules.{rules}
use Rattle.declaring.proofs.constant_stands.Goals as goal

pub constant_field-r-requires : goal.constant_field-r-requires
constant_field-r-requires c = search (rules, context_room)

pub returns-then-r-ne0 : goal.returns-then-r-ne0
returns-then-r-ne0 c = search (rules, constant-refused)

pub put_itself-requires : goal.put_itself-requires
put_itself-requires c = search (rules, few-lawful)

pub returns : goal.returns
returns c = search (rules, constant-lawful)
