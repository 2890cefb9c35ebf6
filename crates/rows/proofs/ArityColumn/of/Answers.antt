use Rattle.rows.proofs.Counts.{column-at, no-arity}
use Rattle.rows.proofs.ArityColumn.of.Goals as goal

pub returns-then-i-lt-CODES : goal.returns-then-i-lt-CODES
returns-then-i-lt-CODES c = search column-at

pub returns-else-i-lt-CODES : goal.returns-else-i-lt-CODES
returns-else-i-lt-CODES c = search no-arity
