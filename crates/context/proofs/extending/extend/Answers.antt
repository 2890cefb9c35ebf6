use Rattle.context.proofs.Joins.{both-joined, order-ready}
use Rattle.context.proofs.extending.extend.Goals as goal

pub extend_order-requires : goal.extend_order-requires
extend_order-requires c = search order-ready

pub returns : goal.returns
returns c = search both-joined
