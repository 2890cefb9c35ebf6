use Rattle.call_table.proofs.Ending.{placed-failed, placed_one}
use Rattle.call_table.proofs.Rows.{end-inside}
use borrow.Author.Rules.{rules}
use Rattle.call_table.proofs.put_place.Goals as goal

pub returns-then-long-e : goal.returns-then-long-e
returns-then-long-e c = search (rules, placed-failed)

pub put_word-requires : goal.put_word-requires
put_word-requires c = (search (rules, end-inside), search rules)

pub returns : goal.returns
returns c = search (rules, placed_one)
