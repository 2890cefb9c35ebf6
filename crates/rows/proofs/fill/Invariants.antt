use Rattle.rows.proofs.Filling.{Filling}
use Rattle.rows.proofs.fill.Given as goal

abbrev pub invariant-loop-i : goal.invariant-loop-i
invariant-loop-i g l = Filling l.x l.first l.end l.initial.column l.column l.i
