use Rattle.cells.proofs.Cells.{next-full, next-no, next-yes}
use borrow.Author.Rules.{rules}
use Rattle.cells.proofs.next_rank.Goals as goal

pub returns-then-rank-room : goal.returns-then-rank-room
returns-then-rank-room c = (search (rules, next-yes), search rules)

pub returns-else-call : goal.returns-else-call
returns-else-call c = (search (rules, next-full, next-no), search rules)
