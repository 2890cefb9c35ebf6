use Rattle.tables.proofs.Bringing.{RowsFrom}
use Rattle.tables.proofs.brought.fill_rows.Given as goal

abbrev pub invariant-loop-r : goal.invariant-loop-r
invariant-loop-r l = RowsFrom l.store.names l.r l.nexts
