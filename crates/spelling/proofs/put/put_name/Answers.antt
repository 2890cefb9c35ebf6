use Rattle.spelling.proofs.Putting.{put-named}
use borrow.Author.Rules.{rules}
use Rattle.spelling.proofs.put.put_name.Goals as goal

pub returns : goal.returns
returns c = search (rules, put-named)
