use Rattle.tables.proofs.Bringing.{rows_end, rows-same-size, rows-size, rows_start, rows-turn}
use borrow.Author.Rules.{rules}
use Rattle.tables.proofs.brought.fill_rows.Goals as goal

pub loop-r-init : goal.loop-r-init
loop-r-init c = search (rows_start, rules)

pub fill_row-requires : goal.fill_row-requires
fill_row-requires c = search (rows-size, rules)

pub loop-r-preserved : goal.loop-r-preserved
loop-r-preserved c = search (rows-turn, rules)

pub shape_of-nexts : goal.shape_of-nexts
shape_of-nexts c = search (rows-same-size, rules)

pub returns : goal.returns
returns c = search (rows_end, rules)
