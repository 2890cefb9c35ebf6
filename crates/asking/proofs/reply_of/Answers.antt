-- `reply_of`: by where the walk ended.
use Rattle.asking.proofs.Causes.{reply-kept, reply-left-over, reply-limit}
use Rattle.asking.proofs.reply_of.Goals as goal

pub returns-then-w-expr : goal.returns-then-w-expr
returns-then-w-expr c = search reply-kept

pub returns : goal.returns
returns c = search reply-left-over

pub returns-in_default : goal.returns-in_default
returns-in_default c = search reply-limit
