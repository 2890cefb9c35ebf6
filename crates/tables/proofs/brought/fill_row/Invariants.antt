use Rattle.tables.proofs.Bringing.{RowFrom}
use Rattle.tables.proofs.brought.fill_row.Given as goal

abbrev pub invariant-loop-s : goal.invariant-loop-s
invariant-loop-s l = RowFrom l.store.names l.initial.nexts l.r l.s l.found l.nexts
