use Rattle.call_table.proofs.Passing.{argument-clear, argument-set}
use borrow.Author.Rules.{rules}
use Rattle.call_table.proofs.Reading.argument_end.Goals as goal

pub returns-then-h-eq1 : goal.returns-then-h-eq1
returns-then-h-eq1 c = search (rules, argument-set)

pub returns : goal.returns
returns c = search (rules, argument-clear)
