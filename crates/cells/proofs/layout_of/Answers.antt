use Rattle.cells.proofs.Cells.{sized}
use borrow.Author.Rules.{rules}
use Rattle.cells.proofs.layout_of.Goals as goal

-- src/lib.rt:76:1
pub returns : goal.returns
returns c = (search rules, search (rules, sized))
