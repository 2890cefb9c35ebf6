use Rattle.templates.proofs.Defining.{Beginning}
use Rattle.templates.proofs.shaping.begin_shapes.Given as goal

abbrev pub invariant-loop-i : goal.invariant-loop-i
invariant-loop-i l = Beginning l.shapes l.along l.i
