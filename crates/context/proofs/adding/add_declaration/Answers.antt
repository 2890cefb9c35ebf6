use Rattle.context.proofs.Written.{declaration-written, row_room}
use borrow.Author.Rules.{rules}
use Rattle.context.proofs.adding.add_declaration.Goals as goal

pub push_context-requires : goal.push_context-requires
push_context-requires c = search (rules, row_room)

pub returns : goal.returns
returns c = search (rules, declaration-written)
