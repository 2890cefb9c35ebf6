use Rattle.spelling.proofs.Putting.{put_two}
use borrow.Author.Rules.{rules}
use Rattle.spelling.proofs.put.put_pair.Goals as goal

pub returns : goal.returns
returns c = search (rules, put_two)
