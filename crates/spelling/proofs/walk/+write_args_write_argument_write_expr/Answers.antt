use Rattle.spelling.proofs.Walking.{args_more, args_none, argument-wrote, text-token, wrote-limit, wrote_nothing}
use Rattle.tokens.proofs.Places.{fits}
use Rattle.spelling.proofs.walk.+write_args_write_argument_write_expr.Goals as goal

pub write_args-returns-then-k-eq0 : goal.write_args-returns-then-k-eq0
write_args-returns-then-k-eq0 t c = search args_none

pub write_args-returns : goal.write_args-returns
write_args-returns t c = search args_more

pub write_argument-returns : goal.write_argument-returns
write_argument-returns t c = search argument-wrote

pub write_expr-returns-then-nest-eq0 : goal.write_expr-returns-then-nest-eq0
write_expr-returns-then-nest-eq0 t c = search wrote-limit

pub write_expr-overflow_add-start : goal.write_expr-overflow_add-start
write_expr-overflow_add-start t c = search fits

pub write_expr-returns : goal.write_expr-returns
write_expr-returns t c = search text-token

pub write_expr-returns-in_default : goal.write_expr-returns-in_default
write_expr-returns-in_default t c = search wrote_nothing
