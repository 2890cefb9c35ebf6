-- `query::expand_with`: too many parameters, or what is left.
use Rattle.expanding.proofs.Replying.{reply-many}
use borrow.Author.Rules.{rules}
use Rattle.expanding.proofs.query.expand_with.Goals as goal

pub returns-then-params-gt-ARITY : goal.returns-then-params-gt-ARITY
returns-then-params-gt-ARITY c = reply-many _ _ _ _ _ _ _ (λ i. (c.shared_slice_known-1.given i).fits) _ (search rules) _ (search rules)
