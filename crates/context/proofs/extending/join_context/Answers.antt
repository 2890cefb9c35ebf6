use Prim.Native.Nat.{◌+◌, ◌<◌}
use native.Mathlib.Omega.{arith}
use Rattle.context.proofs.Joins.{context-new, contexts-frame, join-count, join-place, joined-old}
use Rattle.limits.specs.Sizes.{contexts_length}
use borrow.Author.Rules.{rules}
use Rattle.context.proofs.extending.join_context.Goals as goal

pub overflow_add-place : goal.overflow_add-place
overflow_add-place c = let r : c.args.base + c.args.count < contexts_length = search join-place in omega arith

pub put_context-requires : goal.put_context-requires
put_context-requires c = search join-place

pub overflow_add-result : goal.overflow_add-result
overflow_add-result c = search (rules, join-count)

pub returns-then-marks-o-eq0 : goal.returns-then-marks-o-eq0
returns-then-marks-o-eq0 c = (search contexts-frame, search context-new)

pub returns : goal.returns
returns c = (search rules, search joined-old)
