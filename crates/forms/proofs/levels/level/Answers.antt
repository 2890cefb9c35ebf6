use Rattle.forms.proofs.Reading.{reads-start, reads-turn, reads_end}
use borrow.Author.Rules.{rules}
use Rattle.forms.proofs.levels.level.Goals as goal

pub loop-l-init : goal.loop-l-init
loop-l-init c = search (rules, reads-start)

pub loop-l-preserved : goal.loop-l-preserved
loop-l-preserved c = search (rules, reads-turn)

pub returns : goal.returns
returns c = search (rules, reads_end)
