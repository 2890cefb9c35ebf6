use Rattle.spelling.proofs.Walking.{inside-last, inside-none}
use borrow.Author.Rules.{rules}
use Rattle.spelling.proofs.walk.is_inside.Goals as goal

pub returns-then-rest : goal.returns-then-rest
returns-then-rest c = search (rules, inside-last)

pub returns : goal.returns
returns c = search (rules, inside-none)
