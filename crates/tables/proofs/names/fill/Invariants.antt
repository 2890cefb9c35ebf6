use Rattle.tables.proofs.Naming.{Placing}
use Rattle.tables.proofs.names.fill.Given as goal

abbrev pub invariant-loop-i : goal.invariant-loop-i
invariant-loop-i l = Placing l.store.names l.store.contexts l.from l.end l.i l.table
