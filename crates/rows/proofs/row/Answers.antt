-- each arm by its range; the array is the definition at every code that is kept, which antt computes
use borrow.Author.Rules.{rules}
use Rattle.theory.specs.Level.{row}
use Rattle.rows.specs.Numbers.{row_number}
use Rattle.rows.proofs.Ranges.{in-range, kept_low, kept_high}
use Rattle.rows.proofs.row.Goals as goal

pub returns-in-0-to-15 : goal.returns-in-0-to-15
unfolding row_number row
returns-in-0-to-15 c = in-range 0 tt c.args.code (search rules) (search rules)

pub returns-in-16-to-47 : goal.returns-in-16-to-47
unfolding row_number row
returns-in-16-to-47 c = in-range 1 tt c.args.code (search rules) (search rules)

pub returns-in-48-to-95 : goal.returns-in-48-to-95
unfolding row_number row
returns-in-48-to-95 c = in-range 2 tt c.args.code (search rules) (search rules)

pub returns-in-96-to-103 : goal.returns-in-96-to-103
unfolding row_number row
returns-in-96-to-103 c = in-range 3 tt c.args.code (search rules) (search rules)

pub returns-in-104-to-127 : goal.returns-in-104-to-127
unfolding row_number row
returns-in-104-to-127 c = kept_low c.args.code (search rules) (search rules)

pub returns-in-128-to-131 : goal.returns-in-128-to-131
unfolding row_number row
returns-in-128-to-131 c = in-range 4 tt c.args.code (search rules) (search rules)

pub returns-in-132-to-139 : goal.returns-in-132-to-139
unfolding row_number row
returns-in-132-to-139 c = in-range 5 tt c.args.code (search rules) (search rules)

pub returns-in-140-to-141 : goal.returns-in-140-to-141
unfolding row_number row
returns-in-140-to-141 c = kept_high c.args.code (search rules) (search rules)

pub returns-in_default : goal.returns-in_default
unfolding row_number row
returns-in_default c = in-range 6 tt c.args.code (search rules) (search rules)
