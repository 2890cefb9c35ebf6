use Rattle.tokens.proofs.Places.{fits}
use Rattle.tokens.proofs.Limiting.{args_end, args-next, args-passed, expr-deep, expr-cut, expr-over, expr-args}
use Rattle.tokens.proofs.+read_args_read_expr.Goals as goal

pub read_args-returns-then-left-eq0 : goal.read_args-returns-then-left-eq0
read_args-returns-then-left-eq0 t c = search args_end

pub read_args-returns : goal.read_args-returns
read_args-returns t c = search (args-next, c.in_ok-next.was)

pub read_args-returns-in_err-next : goal.read_args-returns-in_err-next
read_args-returns-in_err-next t c = search (args-passed, c.in_err-next.was)

pub read_expr-returns-then-nesting-eq0 : goal.read_expr-returns-then-nesting-eq0
read_expr-returns-then-nesting-eq0 t c = search expr-deep

pub read_expr-returns-then-k-gt-ARITY : goal.read_expr-returns-then-k-gt-ARITY
read_expr-returns-then-k-gt-ARITY t c = search (expr-over, c.in_ok-t.was)

pub read_expr-overflow_add-at : goal.read_expr-overflow_add-at
read_expr-overflow_add-at t c = search (fits, c.in_ok-t.was)

pub read_expr-returns : goal.read_expr-returns
read_expr-returns t c = search (expr-args, c.in_ok-t.was)

pub read_expr-returns-in_err-t : goal.read_expr-returns-in_err-t
read_expr-returns-in_err-t t c = search (expr-cut, c.in_err-t.was)
