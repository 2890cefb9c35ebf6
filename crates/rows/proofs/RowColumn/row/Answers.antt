use Rattle.rows.proofs.Counts.{rows_at, no_number}
use Rattle.rows.proofs.RowColumn.row.Goals as goal

pub returns-then-i-lt-CODES : goal.returns-then-i-lt-CODES
returns-then-i-lt-CODES c = search rows_at

pub returns-else-i-lt-CODES : goal.returns-else-i-lt-CODES
returns-else-i-lt-CODES c = search no_number
