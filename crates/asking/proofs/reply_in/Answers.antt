-- `reply_in`: what the levels tell, or what is left.
use Rattle.asking.proofs.Replies.{reply-levels}
use borrow.Author.Rules.{rules}
use Rattle.asking.proofs.reply_in.Goals as goal

pub returns-then-cause-ne0 : goal.returns-then-cause-ne0
returns-then-cause-ne0 c = reply-levels _ _ _ _ _ _ (λ i. (c.shared_slice_known-1.given i).fits) _ (search rules) (search rules)
