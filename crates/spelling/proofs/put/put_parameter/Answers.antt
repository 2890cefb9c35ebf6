use Rattle.spelling.proofs.Putting.{put-par}
use borrow.Author.Rules.{rules}
use Rattle.spelling.proofs.put.put_parameter.Goals as goal

pub returns : goal.returns
returns c = search (rules, put-par)
