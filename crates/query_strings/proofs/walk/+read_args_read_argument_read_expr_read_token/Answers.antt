-- `read_expr`, `read_token`, `read_args` and `read_argument`, which call each other: the nesting falls, or the number of arguments left.
use Rattle.query_strings.proofs.Reading.{argument-skipped, argument-written, reads-lost-token, reads_more, reads_none, reads-past, reads-token, stands}
use Rattle.query_strings.proofs.Skimming.{all-later, all-lost, skims-count, skims-limit, skims-nothing}
use Rattle.resolve.proofs.Walking.{deeper-low, under_low}
use native.Mathlib.Omega.{arith}
use borrow.Author.Rules.{rules}
use Rattle.query_strings.proofs.walk.+read_args_read_argument_read_expr_read_token.Goals as goal

pub read_args-returns-then-k-eq0 : goal.read_args-returns-then-k-eq0
read_args-returns-then-k-eq0 t c = reads_none _ _ _ _ _ _ _ _ _ _ _ _ _ _ _ _ c.if-k-eq0.true c.nothing.ensures

pub read_args-read_argument-requires : goal.read_args-read_argument-requires
read_args-read_argument-requires t c = (omega arith, (c.requires.0, under_low c.args.g.count c.args.g.around c.args.g.within c.args.g.nest _ c.bound_in-bound.ensures c.requires.1 c.requires.2))

pub read_args-read_args-requires : goal.read_args-read_args-requires
read_args-read_args-requires t c = (omega (arith, c.if-k-eq0.false), (c.requires.0, c.requires.1, c.requires.2))

pub read_args-returns-in_err-a : goal.read_args-returns-in_err-a
read_args-returns-in_err-a t c = rw c.from_residual.ensures (all-lost _ _ _ _ _ _ _ _ _ _ c.if-k-eq0.false _ c.in_err-a.ensures)

pub read_args-returns-in_err-b : goal.read_args-returns-in_err-b
read_args-returns-in_err-b t c = rw c.from_residual-in_err-b.ensures (all-later _ _ _ _ _ _ _ _ _ _ c.if-k-eq0.false _ c.bound_in-bound.ensures _ c.in_ok-a.ensures.skims c.in_err-b.ensures)

pub read_args-returns : goal.read_args-returns
read_args-returns t c = reads_more _ _ _ _ _ _ _ _ _ _ _ _ _ _ _ c.if-k-eq0.false _ _ _ c.in_ok-a.ensures _ _ _ _ c.bound_in-bound.ensures c.passed-left.ensures c.in_ok-b.ensures c.joined.ensures

pub read_argument-read_expr-requires : goal.read_argument-read_expr-requires
read_argument-read_expr-requires t c = (omega arith, (c.requires.0, c.requires.1))

pub read_argument-returns-then-is_written : goal.read_argument-returns-then-is_written
read_argument-returns-then-is_written t c = argument-written _ _ _ _ _ _ _ _ _ _ _ _ _ _ _ _ _ _ _ _ c.open_argument-q.ensures c.in_ok-a.ensures c.close_argument-to.ensures

pub read_argument-returns-in_err-a : goal.read_argument-returns-in_err-a
read_argument-returns-in_err-a t c = rw c.from_residual.ensures c.in_err-a.ensures

pub read_argument-read_unwritten-requires : goal.read_argument-read_unwritten-requires
read_argument-read_unwritten-requires t c = (c.requires.0, c.requires.1)

pub read_argument-returns : goal.read_argument-returns
read_argument-returns t c = argument-skipped _ _ _ _ _ _ _ _ _ _ _ _ _ _ _ _ c.is_written.ensures c.if-is_written.false c.read_unwritten.ensures

pub read_expr-read_unwritten-requires : goal.read_expr-read_unwritten-requires
read_expr-read_unwritten-requires t c = (c.requires.0, c.requires.1)

pub read_expr-returns-then-out-q : goal.read_expr-returns-then-out-q
read_expr-returns-then-out-q t c = reads-past _ _ _ _ _ _ _ _ _ _ _ _ _ _ c.if-out-q.true c.read_unwritten.ensures

pub read_expr-returns-then-e-eq0 : goal.read_expr-returns-then-e-eq0
read_expr-returns-then-e-eq0 t c = skims-limit _ _ _ _ _ _ _ _ c.if-e-eq0.true

pub read_expr-returns-then-k : goal.read_expr-returns-then-k
read_expr-returns-then-k t c = search (skims-count, rules, c.in_ok-t.was)

pub read_expr-read_token-requires : goal.read_expr-read_token-requires
read_expr-read_token-requires t c = (omega arith, (c.requires.0, c.requires.1, search (stands, rules, c.in_ok-t.was)))

pub read_expr-returns : goal.read_expr-returns
read_expr-returns t c = c.read_token.ensures

pub read_expr-returns-in_err-t : goal.read_expr-returns-in_err-t
read_expr-returns-in_err-t t c = rw c.from_residual.ensures (search (skims-nothing, rules, c.in_err-t.was))

pub read_token-read_head-h-requires : goal.read_token-read_head-h-requires
read_token-read_head-h-requires t c = c.requires.0

pub read_token-after_token-start-requires : goal.read_token-after_token-start-requires
read_token-after_token-start-requires t c = c.requires.2.token

pub read_token-bound_inside-last-requires : goal.read_token-bound_inside-last-requires
read_token-bound_inside-last-requires t c = omega (arith, c.requires.1, c.requires.2.deep)

pub read_token-overflow_sub-g : goal.read_token-overflow_sub-g
read_token-overflow_sub-g t c = omega (arith, c.requires.2.deep)

pub read_token-read_args-requires : goal.read_token-read_args-requires
read_token-read_args-requires t c = (omega (arith, c.requires.2.deep, c.requires.2.few), (c.requires.0, omega (arith, c.requires.1), deeper-low c.args.t _ _ _ c.bound_inside-last.ensures c.requires.1 (λ z. omega (arith, c.requires.2.deep))))

pub read_token-returns-in_err-a : goal.read_token-returns-in_err-a
read_token-returns-in_err-a t c = rw c.from_residual.ensures (reads-lost-token _ _ _ _ _ _ _ _ _ _ c.requires.2 _ _ c.after_token-start.ensures c.bound_inside-last.ensures c.in_err-a.ensures)

pub read_token-returns : goal.read_token-returns
read_token-returns t c = reads-token _ _ _ _ _ _ _ _ _ _ _ _ _ c.requires.2 _ _ c.after_token-start.ensures c.bound_inside-last.ensures _ _ _ _ _ _ _ c.read_head-h.ensures c.in_ok-a.ensures c.over-looked.ensures
