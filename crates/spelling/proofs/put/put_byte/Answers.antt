use Rattle.spelling.proofs.Putting.{put-in, put-out}
use borrow.Author.Rules.{rules}
use Rattle.spelling.proofs.put.put_byte.Goals as goal

pub returns-then-q-out : goal.returns-then-q-out
returns-then-q-out c = search (rules, put-in)

pub returns : goal.returns
returns c = search (rules, put-out)
