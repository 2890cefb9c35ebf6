use Rattle.call_table.specs.Walking.{Ending}
use Rattle.call_table.proofs.end_calls.Given as goal

abbrev pub invariant-loop-r : goal.invariant-loop-r
invariant-loop-r l = Ending l.a l.shapes l.n l.fn.l l.known l.r l.initial.table l.table
