use Rattle.spelling.proofs.Heading.{written_all, written-bit}
use borrow.Author.Rules.{rules}
use Rattle.spelling.proofs.heads.is_written.Goals as goal

pub returns-then-rest : goal.returns-then-rest
returns-then-rest c = search (rules, written_all)

pub returns : goal.returns
returns c = search (rules, written-bit)
