use Rattle.spelling.proofs.Heading.{led-more, led-none}
use borrow.Author.Rules.{rules}
use Rattle.spelling.proofs.heads.+leads.Goals as goal

pub returns-then-p-eq0 : goal.returns-then-p-eq0
returns-then-p-eq0 t c = search (rules, led-none)

pub returns : goal.returns
returns t c = search led-more
