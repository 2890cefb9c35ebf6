-- `world::outer_after`.
use Rattle.chains.proofs.Along.{has-link, outer-read, step-kind}
use borrow.Author.Rules.{rules}
use Rattle.chains.proofs.world.outer_after.Goals as goal

pub code_of-requires : goal.code_of-requires
code_of-requires c = search (rules, has-link)

pub overflow_sub-result : goal.overflow_sub-result
overflow_sub-result c = search (rules, step-kind)

pub returns : goal.returns
returns c = search (rules, outer-read)
