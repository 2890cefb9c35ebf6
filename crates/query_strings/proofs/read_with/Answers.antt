-- `read_with`: the walk from nesting 32 on, with no variable bound.
use Rattle.query_strings.proofs.Reading.{is_read}
use borrow.Author.Rules.{rules}
use Rattle.query_strings.proofs.read_with.Goals as goal

pub returns : goal.returns
returns c = is_read _ _ _ _ _ _ _ _ _ _ _ _ (λ i. (c.shared_slice_known-1.given i).fits) c.names_fit.ensures c.identity.ensures c.in_ok-a.ensures c.fitting-len.ensures (search rules)
