-- `walked_reply`: the limits, causes 9 and 10, or the level.
use Rattle.asking.proofs.Replies.{reply-walked}
use borrow.Author.Rules.{rules}
use Rattle.asking.proofs.walked_reply.Goals as goal

pub returns : goal.returns
returns c = reply-walked _ _ _ _ _ _ (λ i. (c.shared_slice_known-1.given i).fits) (search rules) _ c.judge-w.ensures _ c.reply_of.ensures
