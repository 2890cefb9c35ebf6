use Rattle.queries.proofs.Picking.{no_body, one-body}
use Rattle.queries.proofs.replies.body_reply.Goals as goal

pub returns-then-n-g : goal.returns-then-n-g
returns-then-n-g c = search no_body

pub returns : goal.returns
returns c = search one-body
