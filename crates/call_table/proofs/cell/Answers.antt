use Rattle.call_table.proofs.Rows.{cell-small, row_small}
use borrow.Author.Rules.{rules}
use native.Mathlib.Omega.{arith}
use Rattle.call_table.proofs.cell.Goals as goal

pub overflow_mul-result : goal.overflow_mul-result
overflow_mul-result c = omega (arith, row_small c.args.stride c.args.r (search rules) (search rules))

pub overflow_add-result : goal.overflow_add-result
overflow_add-result c = omega (arith, cell-small c.args.stride c.args.r c.args.i (search rules) (search rules) (search rules))

pub returns : goal.returns
returns c = search (rules, cell-small)
