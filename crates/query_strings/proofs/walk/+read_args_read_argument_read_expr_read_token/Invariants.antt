use Prim.Native.Nat.{◌+◌, ◌*◌}
use Rattle.query_strings.proofs.walk.+read_args_read_argument_read_expr_read_token.Given as goal

abbrev pub decreases-read_args : goal.decreases-read_args
decreases-read_args l = l.g.nest * 512 + l.g.count + 3

abbrev pub decreases-read_argument : goal.decreases-read_argument
decreases-read_argument l = l.e.nest * 512 + 2

abbrev pub decreases-read_expr : goal.decreases-read_expr
decreases-read_expr l = l.e.nest * 512 + 1

abbrev pub decreases-read_token : goal.decreases-read_token
decreases-read_token l = l.e.nest * 512
