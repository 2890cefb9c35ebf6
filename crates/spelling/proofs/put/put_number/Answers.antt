use Rattle.spelling.proofs.Putting.{put_three}
use borrow.Author.Rules.{rules}
use Rattle.spelling.proofs.put.put_number.Goals as goal

pub returns : goal.returns
returns c = search (rules, put_three)
