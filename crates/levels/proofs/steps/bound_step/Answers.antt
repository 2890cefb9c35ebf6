use Rattle.levels.proofs.Heads.{bound-stepped}
use Rattle.levels.proofs.steps.bound_step.Goals as goal

pub returns : goal.returns
returns c = bound-stepped _ _ _ _ _ _ _ _ _ c.bit_of-x.ensures c.add_level-more.ensures c.leaf.ensures
