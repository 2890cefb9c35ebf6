-- `kept_reply`: 9 before 10.
use Rattle.asking.proofs.Causes.{reply-miscounted, reply-right, reply-unknown}
use Rattle.asking.proofs.kept_reply.Goals as goal

pub returns-then-w : goal.returns-then-w
returns-then-w c = search reply-unknown

pub returns-then-w-2 : goal.returns-then-w-2
returns-then-w-2 c = search reply-miscounted

pub returns : goal.returns
returns c = search reply-right
