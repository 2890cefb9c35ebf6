use Rattle.call_table.proofs.Ending.{puts-none, puts-placed}
use borrow.Author.Rules.{rules}
use Rattle.call_table.proofs.Reading.put_end.Goals as goal

pub returns : goal.returns
returns c = search (rules, puts-placed, c.in_ok-e.was)

pub returns-in_err-e : goal.returns-in_err-e
returns-in_err-e c = search (rules, puts-none, c.in_err-e.was)
