use Rattle.cells.proofs.Cells.{Counted}
use Rattle.cells.proofs.places_of.Given as goal

abbrev pub invariant-loop-k : goal.invariant-loop-k
invariant-loop-k l = Counted l.h l.rest l.k
