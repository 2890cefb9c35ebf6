use Prim.Native.Nat.{◌+◌, ◌*◌}
use Rattle.resolve.proofs.walk.+look_args_look_expr.Given as goal

abbrev pub decreases-look_args : goal.decreases-look_args
decreases-look_args l = l.nest * 512 + l.args.left + 1

abbrev pub decreases-look_expr : goal.decreases-look_expr
decreases-look_expr l = l.nest * 512
