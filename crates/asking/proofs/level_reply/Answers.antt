-- `level_reply`: 17, or the reply in the module found.
use Rattle.asking.proofs.Replies.{reply-no-module, reply-there}
use Rattle.asking.proofs.level_reply.Goals as goal

pub returns-then-c-q : goal.returns-then-c-q
returns-then-c-q c = search reply-no-module

pub returns : goal.returns
returns c = search reply-there
