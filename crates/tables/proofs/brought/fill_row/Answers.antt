-- `brought::fill_row`: the row is right from s on.
use Rattle.tables.proofs.Bringing.{row-end, row_inside, row-size, row-start, row-turn}
use borrow.Author.Rules.{rules}
use Rattle.tables.proofs.brought.fill_row.Goals as goal

pub loop-s-init : goal.loop-s-init
loop-s-init c = search (row-start, rules)

pub bounds-nexts-row : goal.bounds-nexts-row
bounds-nexts-row c = search (row_inside, rules)

pub loop-s-preserved : goal.loop-s-preserved
loop-s-preserved c = search (row-turn, rules)

pub shape_of-nexts : goal.shape_of-nexts
shape_of-nexts c = search (row-size, rules)

pub returns : goal.returns
returns c = search (row-end, rules)
