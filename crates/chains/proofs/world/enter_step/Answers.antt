-- `world::enter_step`.
use Rattle.chains.proofs.Along.{has-link, link-at, step-link}
use borrow.Author.Rules.{rules}
use Rattle.chains.proofs.world.enter_step.Goals as goal

pub code_of-o-requires : goal.code_of-o-requires
code_of-o-requires c = search (rules, has-link)

pub enter_link-requires : goal.enter_link-requires
enter_link-requires c = search (rules, step-link)

pub returns : goal.returns
returns c = search (rules, link-at)
