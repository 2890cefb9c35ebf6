-- the runs and the kept rows one after another are the column, which antt computes
use mathlib.Core.Path.{refl}
use Rattle.theory.specs.Level.{row}
use Rattle.rows.specs.Numbers.{row_column, row_number}
use Rattle.rows.proofs.RowColumn.new.Goals as goal

pub invariant_of-result : goal.invariant_of-result
unfolding row_column row_number row
invariant_of-result c = record { whole = rw (c.copy_from_slice-2.ensures.after, c.fill-5.ensures, c.fill-4.ensures, c.copy_from_slice.ensures.after, c.fill-3.ensures, c.fill-2.ensures, c.fill.ensures) refl }
