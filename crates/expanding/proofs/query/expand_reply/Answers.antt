-- `query::expand_reply`: 17, or the reply in the module found.
use Rattle.expanding.proofs.Replying.{reply-no-module, reply-there}
use borrow.Author.Rules.{rules}
use Rattle.expanding.proofs.query.expand_reply.Goals as goal

pub returns-then-c-q : goal.returns-then-c-q
returns-then-c-q c = reply-no-module _ _ _ _ _ _ _ _ _ c.find_module-q.ensures (search rules)

pub returns : goal.returns
returns c = reply-there _ _ _ _ _ _ _ _ _ c.find_module-q.ensures _ _ (search rules) c.expand_in.ensures
