-- the runs one after another are the column, which antt computes
use Rattle.theory.specs.Level.{row}
use Rattle.rows.specs.Rows.{arity_of, arity_column}
use Rattle.rows.proofs.ArityColumn.new.Goals as goal

pub invariant_of-result : goal.invariant_of-result
unfolding arity_column arity_of row
invariant_of-result c = record { whole = rw (c.fill-8.ensures, c.fill-7.ensures, c.fill-6.ensures, c.fill-5.ensures, c.fill-4.ensures, c.fill-3.ensures, c.fill-2.ensures, c.fill.ensures) at c.fill-9.ensures }
