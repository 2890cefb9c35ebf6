-- `world::world_form`: the walk begins with the tables of no instance.
use Rattle.chains.proofs.Along.{form-copied}
use Rattle.chains.proofs.Copies.{itselves}
use borrow.Author.Rules.{rules}
use Rattle.chains.proofs.world.world_form.Goals as goal

pub returns : goal.returns
returns c = search (rules, form-copied)

pub walk_chain-requires : goal.walk_chain-requires
walk_chain-requires c = (itselves _ c.identity.ensures, c.requires.0, c.requires.1)
