-- `query::expand_shaped`: the expression read once, and the reply by what was read.
use native.Mathlib.Omega.{arith}
use Rattle.expanding.proofs.Reading.{reply-read}
use Rattle.expanding.proofs.query.expand_shaped.Goals as goal

pub expand_read-requires : goal.expand_read-requires
expand_read-requires c = let pre = c.requires in (pre.3.long, omega (arith, pre.4), omega (arith, pre.5), omega (arith, pre.6))

pub returns : goal.returns
returns c = let pre = c.requires in
    reply-read _ _ _ _ _ _ _ _ _ _ _ _ _ c.expand_read.ensures pre.1 pre.2 pre.3 _ pre.4 c.query_string-q.ensures
