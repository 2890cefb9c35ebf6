-- `empty::put_itself`: one form stored.
use Rattle.entering.proofs.Standing.{put-itself}
use borrow.Author.Rules.{rules}
use Rattle.entering.proofs.empty.put_itself.Goals as goal

pub returns : goal.returns
returns c = search (rules, put-itself)
