use Rattle.rewriting.proofs.Bounding.{Bounding}
use Rattle.rewriting.proofs.Replacement.arguments.Given as goal

abbrev pub invariant-loop-i : goal.invariant-loop-i
invariant-loop-i l = Bounding l.a l.self.shapes.now l.h l.at l.bounds l.rest l.i
