use Rattle.spelling.proofs.Heading.{built-in-put}
use borrow.Author.Rules.{rules}
use Rattle.spelling.proofs.heads.built_in.Goals as goal

pub returns : goal.returns
returns c = search (rules, built-in-put)
