use native.Mathlib.Omega.{arith}
use Rattle.cells.proofs.Cells.{counted-end, counted-few, counted_none, counted-turn, counted-zero}
use Rattle.cells.proofs.places_of.Goals as goal

pub loop-k-init : goal.loop-k-init
loop-k-init c = search counted_none

pub returns-then-rest-eq0 : goal.returns-then-rest-eq0
returns-then-rest-eq0 c = (search counted-zero, search counted-few)

pub loop-k-preserved : goal.loop-k-preserved
loop-k-preserved c = search counted-turn

pub returns : goal.returns
returns c = (search counted-end, search arith)
