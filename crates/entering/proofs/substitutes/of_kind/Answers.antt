-- `substitutes::of_kind`: the kinds are one, or not.
use Rattle.entering.proofs.Substituting.{kind-same, kind-other}
use borrow.Author.Rules.{rules}
use Rattle.entering.proofs.substitutes.of_kind.Goals as goal

pub returns-then-k-kind_at : goal.returns-then-k-kind_at
returns-then-k-kind_at c = search (rules, kind-same)

pub returns : goal.returns
returns c = search (rules, kind-other)
