use Rattle.replacing.proofs.Rounding.{rewritten-small}
use borrow.Author.Rules.{rules}
use Rattle.replacing.proofs.rewrite_with.Goals as goal

pub returns : goal.returns
returns c = rewritten-small _ _ _ _ _ _ _ _ _ _ (search rules) (search rules) c.place.ensures (search rules) (search rules)
