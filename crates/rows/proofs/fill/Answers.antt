use Rattle.rows.proofs.Filling.{start, inside, turn, whole}
use Rattle.rows.proofs.fill.Goals as goal

pub loop-i-init : goal.loop-i-init
loop-i-init g c = search start

pub bounds-column-i : goal.bounds-column-i
bounds-column-i g c = search inside

pub loop-i-preserved : goal.loop-i-preserved
loop-i-preserved g c = search turn

pub returns : goal.returns
returns g c = search whole
