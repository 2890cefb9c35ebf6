use Rattle.call_table.proofs.Passing.{hops-known, hops-left, pass-hop, pass_step}
use borrow.Author.Rules.{rules}
use Rattle.call_table.proofs.Reading.pass.Goals as goal

pub hop-requires : goal.hop-requires
hop-requires c = (search rules, search (rules, hops-known), search (rules, hops-left))

pub returns-then-hops : goal.returns-then-hops
returns-then-hops c = search (rules, pass-hop)

pub returns : goal.returns
returns c = search (rules, pass_step)
