use Rattle.spelling.proofs.Putting.{put-call}
use borrow.Author.Rules.{rules}
use Rattle.spelling.proofs.put.put_call.Goals as goal

pub returns : goal.returns
returns c = search (rules, put-call)
