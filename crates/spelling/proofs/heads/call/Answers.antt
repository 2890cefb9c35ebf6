use Rattle.spelling.proofs.Heading.{called-put}
use borrow.Author.Rules.{rules}
use Rattle.spelling.proofs.heads.call.Goals as goal

pub returns : goal.returns
returns c = search (rules, called-put)
