use Rattle.call_table.proofs.Rows.{hops-unknown, hops-wanted}
use borrow.Author.Rules.{rules}
use Rattle.call_table.proofs.hops.Goals as goal

pub returns-then-rank-known : goal.returns-then-rank-known
returns-then-rank-known c = search (rules, hops-wanted)

pub returns-else-rank-known : goal.returns-else-rank-known
returns-else-rank-known c = search (rules, hops-unknown)
