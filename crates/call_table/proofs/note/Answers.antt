use Rattle.call_table.proofs.Rows.{first-inside, notes-full, notes-none, notes-one}
use borrow.Author.Rules.{rules}
use Rattle.call_table.proofs.note.Goals as goal

pub put_word-requires : goal.put_word-requires
put_word-requires c = (search (rules, first-inside), search rules)

pub returns-then-rank-l : goal.returns-then-rank-l
returns-then-rank-l c = search (rules, notes-one)

pub returns : goal.returns
returns c = search (rules, notes-full, notes-none)
