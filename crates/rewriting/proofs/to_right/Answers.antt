use Rattle.rewriting.proofs.Cases.{right-done}
use borrow.Author.Rules.{rules}
use Rattle.rewriting.proofs.to_right.Goals as goal

pub returns : goal.returns
returns c = (search right-done, search rules)
