use Rattle.call_table.proofs.Rows.{hop-astray, hop-is}
use borrow.Author.Rules.{rules}
use Rattle.call_table.proofs.hop.Goals as goal

pub returns-then-p-w : goal.returns-then-p-w
returns-then-p-w c = search (rules, hop-astray)

pub returns : goal.returns
returns c = search (rules, hop-is)
