-- `fill`: the first table, and then the second.
use Rattle.tables.proofs.Filling.{filled-serves, first-length, first-zeroed}
use borrow.Author.Rules.{rules}
use Rattle.tables.proofs.fill.Goals as goal

pub slice_bounds-fill-end-2 : goal.slice_bounds-fill-end-2
slice_bounds-fill-end-2 c = search (first-length, rules)

pub fill-requires : goal.fill-requires
fill-requires c = (search (first-length, rules), search (first-zeroed, rules), search rules, search rules)

pub returns : goal.returns
returns c = search (filled-serves, rules)
