use Rattle.rewriting.specs.Going.{Turning}
use Prim.Native.Nat.{◌-◌}
use lib.ListN.{length}
use Rattle.rewriting.proofs.Replacement.rewrite_from.Given as goal

abbrev pub invariant-loop-p : goal.invariant-loop-p
invariant-loop-p l = Turning l.self.n l.self.template.now l.self.tlen l.self.shapes.now l.from l.initial.a l.initial.filled l.a l.filled l.q l.p

abbrev pub decreases-loop-p : goal.decreases-loop-p
decreases-loop-p l = length l.a - l.q
