use Prim.Native.Nat.{◌-◌}
use lib.ListN.{length}
use Rattle.call_table.specs.Walking.{Walking}
use Rattle.call_table.proofs.Reading.term_end.Given as goal

abbrev pub invariant-loop-w : goal.invariant-loop-w
invariant-loop-w l = Walking l.self.a.now l.self.shapes.now l.self.n l.self.l l.self.known l.table l.initial.w l.w

abbrev pub decreases-loop-w : goal.decreases-loop-w
decreases-loop-w l = length l.self.a.now - l.w.at
