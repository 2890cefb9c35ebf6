-- `alike::note_firsts`: those of the first e declarations have been noted.
use Rattle.templates.proofs.Firsts.{noting-end, noting-start, noting-turn}
use borrow.Author.Rules.{rules}
use Rattle.templates.proofs.alike.note_firsts.Goals as goal

pub loop-e-init : goal.loop-e-init
loop-e-init c = search (rules, noting-start)

pub loop-e-preserved : goal.loop-e-preserved
loop-e-preserved c = search (rules, noting-turn)

pub returns : goal.returns
returns c = search (rules, noting-end)
