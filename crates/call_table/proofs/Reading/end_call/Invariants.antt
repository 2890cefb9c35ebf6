use Rattle.call_table.specs.Walking.{Putting}
use Rattle.call_table.proofs.Reading.end_call.Given as goal

abbrev pub invariant-loop-i : goal.invariant-loop-i
invariant-loop-i l = Putting l.self.a.now l.self.shapes.now l.self.n l.self.l l.self.known l.r l.initial.table l.table l.p l.rest l.i
