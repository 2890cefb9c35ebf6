use Rattle.checker.proofs.Replies.{reply-begun, reply-inside, reply-outside}
use Rattle.checker.proofs.judging.end_reply.Goals as goal

pub returns-in-Outside : goal.returns-in-Outside
returns-in-Outside c = search reply-outside

pub returns-in-Begun : goal.returns-in-Begun
returns-in-Begun c = search reply-begun

pub returns-in-Inside : goal.returns-in-Inside
returns-in-Inside c = search reply-inside
