use Rattle.spelling.proofs.Walking.{closed-bare, closed-bracket, closed-skipped}
use borrow.Author.Rules.{rules}
use Rattle.spelling.proofs.walk.close_argument.Goals as goal

pub returns-then-is_inside : goal.returns-then-is_inside
returns-then-is_inside c = search (rules, closed-bracket)

pub returns-then-is_written : goal.returns-then-is_written
returns-then-is_written c = search (rules, closed-bare)

pub returns : goal.returns
returns c = search (rules, closed-skipped)
