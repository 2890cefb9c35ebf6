use Prim.Native.Nat.{◌+◌, ◌*◌}
use Rattle.tokens.proofs.+read_args_read_expr.Given as goal

abbrev pub decreases-read_args : goal.decreases-read_args
decreases-read_args l = l.nesting * 512 + l.left + 1

abbrev pub decreases-read_expr : goal.decreases-read_expr
decreases-read_expr l = l.nesting * 512
