use Rattle.queries.proofs.Picking.{both, no-first, no_second}
use Rattle.queries.proofs.replies.alike_reply.Goals as goal

pub returns-then-n-g : goal.returns-then-n-g
returns-then-n-g c = search no-first

pub returns-then-n-h : goal.returns-then-n-h
returns-then-n-h c = search no_second

pub returns : goal.returns
returns c = search both
