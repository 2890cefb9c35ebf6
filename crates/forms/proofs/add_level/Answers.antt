use Rattle.forms.proofs.Contracts.{level-added}
use Rattle.forms.proofs.add_level.Goals as goal

pub returns : goal.returns
returns c = level-added _ _ _ _ c.level_under-y.ensures
