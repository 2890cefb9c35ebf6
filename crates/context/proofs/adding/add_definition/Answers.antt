use Rattle.context.proofs.Written.{definition-written, row_room}
use borrow.Author.Rules.{rules}
use Rattle.context.proofs.adding.add_definition.Goals as goal

pub push_both-requires : goal.push_both-requires
push_both-requires c = search (rules, row_room)

pub returns : goal.returns
returns c = search (rules, definition-written)
