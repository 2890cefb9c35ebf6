use lib.ListN.{length-take}
use native.Mathlib.Omega.{arith}
use borrow.Author.Rules.{rules}
use Rattle.judge_plain.proofs.extending.join_all.Goals as goal

pub slice_bounds-join_modules-end-2 : goal.slice_bounds-join_modules-end-2
slice_bounds-join_modules-end-2 c = simp length-take (omega arith)

pub slice_bounds-join_modules-end-4 : goal.slice_bounds-join_modules-end-4
slice_bounds-join_modules-end-4 c = simp length-take (omega arith)

pub join_modules-requires : goal.join_modules-requires
join_modules-requires c = (search rules, simp length-take (omega arith), simp length-take (omega arith), search rules)
