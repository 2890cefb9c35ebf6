use Rattle.levels.proofs.Heads.{name-stepped}
use Rattle.levels.proofs.meaning.Meanings.name_step.Goals as goal

pub returns : goal.returns
returns c = name-stepped _ _ _ _ _ _ _ _ _ c.form_of-w.ensures c.head_step.ensures
