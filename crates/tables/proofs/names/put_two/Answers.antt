-- `names::put_two`: two bytes.
use Rattle.tables.specs.Names.{placed}
use borrow.Author.Rules.{rules}
use Rattle.tables.proofs.names.put_two.Goals as goal

pub returns : goal.returns
unfolding placed
returns c = search rules
