-- `sharing::first_same`: the test has told that i is of the kind and name of d, or d itself is.
use Rattle.entering.proofs.Copied.{same_here, same-itself}
use borrow.Author.Rules.{rules}
use Rattle.entering.proofs.sharing.first_same.Goals as goal

pub returns-then-same_kind : goal.returns-then-same_kind
returns-then-same_kind c = (search rules, search same_here)

pub returns : goal.returns
returns c = (search rules, search same-itself)
