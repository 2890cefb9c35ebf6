use Rattle.instancing.proofs.Brings.{noted-named, row-head, noted-plain}
use borrow.Author.Rules.{rules}
use Rattle.instancing.proofs.note_instance.Goals as goal

pub returns-then-name-eq0 : goal.returns-then-name-eq0
returns-then-name-eq0 c = search (rules, noted-plain)

pub push_context-requires : goal.push_context-requires
push_context-requires c = search (rules, row-head)

pub returns : goal.returns
returns c = search (rules, noted-named)
