-- `names::fill`: the codes from place i on are in the table.
use Rattle.tables.proofs.Naming.{placing-end, placing-inside, placing-size, placing-start, placing-turn}
use borrow.Author.Rules.{rules}
use Rattle.tables.proofs.names.fill.Goals as goal

pub loop-i-init : goal.loop-i-init
loop-i-init c = search (placing-start, rules)

pub put_two-requires : goal.put_two-requires
put_two-requires c = search (rules, placing-inside)

pub loop-i-preserved : goal.loop-i-preserved
loop-i-preserved c = search (placing-turn, rules)

pub shape_of-table : goal.shape_of-table
shape_of-table c = search placing-size

pub returns : goal.returns
returns c = search (placing-end, rules)
