-- `brought::represent`: the first g definitions are represented.
use Rattle.tables.proofs.Bringing.{represented-end, represented-inside, represented-size, represented-start, represented-turn}
use borrow.Author.Rules.{rules}
use Rattle.tables.proofs.brought.represent.Goals as goal

pub loop-g-init : goal.loop-g-init
loop-g-init c = search (represented-start, rules)

pub bounds-nexts-name_at : goal.bounds-nexts-name_at
bounds-nexts-name_at c = search (represented-inside, rules)

pub loop-g-preserved : goal.loop-g-preserved
loop-g-preserved c = search (represented-turn, rules)

pub shape_of-nexts : goal.shape_of-nexts
shape_of-nexts c = search (represented-size, rules)

pub returns : goal.returns
returns c = search (represented-end, rules)
