use Prim.Native.Nat.{◌≤◌}
use native.Mathlib.Omega.{arith}
use Rattle.context.proofs.Joins.{context-count, context-joined, counted-marked, counted-small}
use Rattle.limits.specs.Sizes.{context_length}
use borrow.Author.Rules.{rules}
use Rattle.context.proofs.extending.extend_context.Goals as goal

pub unite_contexts-n-requires : goal.unite_contexts-n-requires
unite_contexts-n-requires c = (search counted-marked, search counted-small, omega arith, omega arith, search rules)

pub overflow_cast-size : goal.overflow_cast-size
overflow_cast-size c = let r : c.unite_contexts-n.result ≤ context_length = search context-count in omega arith

pub returns : goal.returns
returns c = search context-joined
