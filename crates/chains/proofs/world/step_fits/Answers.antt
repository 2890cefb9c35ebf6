-- `world::step_fits`.
use Rattle.chains.proofs.Along.{step-linked, step-unlinked, step-up}
use borrow.Author.Rules.{rules}
use Rattle.chains.proofs.world.step_fits.Goals as goal

pub returns-then-link_at-eq0 : goal.returns-then-link_at-eq0
returns-then-link_at-eq0 c = search (rules, step-unlinked)

pub returns-then-source_of-cur : goal.returns-then-source_of-cur
returns-then-source_of-cur c = search (rules, step-linked)

pub returns : goal.returns
returns c = search (rules, step-up)
