use Prim.Native.Nat.{◌+◌, ◌*◌}
use Rattle.spelling.proofs.walk.+write_args_write_argument_write_expr.Given as goal

abbrev pub decreases-write_args : goal.decreases-write_args
decreases-write_args l = l.nest * 512 + l.k + 2

abbrev pub decreases-write_argument : goal.decreases-write_argument
decreases-write_argument l = l.nest * 512 + 1

abbrev pub decreases-write_expr : goal.decreases-write_expr
decreases-write_expr l = l.nest * 512
