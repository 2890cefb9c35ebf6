use Rattle.spelling.proofs.Walking.{opened-bare, opened-bracket, opened-skipped}
use borrow.Author.Rules.{rules}
use Rattle.spelling.proofs.walk.open_argument.Goals as goal

pub returns-then-is_inside : goal.returns-then-is_inside
returns-then-is_inside c = search (rules, opened-bracket)

pub returns-then-is_written : goal.returns-then-is_written
returns-then-is_written c = search (rules, opened-bare)

pub returns : goal.returns
returns c = search (rules, opened-skipped)
