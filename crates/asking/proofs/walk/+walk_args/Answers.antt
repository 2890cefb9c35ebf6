-- The walk over arguments: its invariant is that of skimming and that of the walk over a text.
use native.Mathlib.Omega.{arith}
use Rattle.asking.proofs.Walking.{going-bits, going-bound, going_end, going-inside, going-leaf, going_on, going-roomy, going_start, stop-inside, stop-limit, stop-token}
use borrow.Author.Rules.{rules}
use Rattle.asking.proofs.walk.+walk_args.Goals as goal

pub loop-k-init : goal.loop-k-init
loop-k-init t c = search (rules, going_start)

pub returns-then-nest-eq0 : goal.returns-then-nest-eq0
returns-then-nest-eq0 t c = stop-limit _ _ _ _ _ _ _ _ _ _ _ _ _ _ _ _ _ _ _ c.loop-k.invariant (search rules) (search rules)

pub next_step-requires : goal.next_step-requires
next_step-requires t c = search (rules, going-bits, going-bound)

pub loop-k-preserved-then-t-eq0 : goal.loop-k-preserved-then-t-eq0
loop-k-preserved-then-t-eq0 t c = going-leaf _ _ _ _ _ _ _ _ _ _ _ _ _ _ _ _ _ _ _ c.loop-k.invariant c.loop-k-test.true _ c.scope-e.ensures _ c.first_label-l.ensures _ c.in_ok-t.ensures c.if-nest-eq0.false c.if-t-eq0.true

pub loop-k-preserved-then-k-eq1 : goal.loop-k-preserved-then-k-eq1
loop-k-preserved-then-k-eq1 t c = going-inside _ _ _ _ _ _ _ _ _ _ _ _ _ _ _ _ _ _ _ c.loop-k.invariant c.loop-k-test.true _ c.scope-e.ensures _ c.first_label-l.ensures _ c.in_ok-t.ensures c.if-nest-eq0.false c.if-k-eq1.true

pub walk_args-requires : goal.walk_args-requires
walk_args-requires t c = (omega (arith, c.loop-k.invariant.causes.deep), (c.requires.0, going-roomy _ _ _ _ _ _ _ _ _ _ _ _ _ _ _ _ _ _ _ c.loop-k.invariant c.loop-k-test.true _ c.scope-e.ensures _ c.first_label-l.ensures _ c.in_ok-t.ensures c.if-nest-eq0.false _, c.in_ok-t.ensures.causes.few))

pub overflow_sub-k-in-loop-k : goal.overflow_sub-k-in-loop-k
overflow_sub-k-in-loop-k t c = omega (arith, c.loop-k-test.true)

pub loop-k-smaller : goal.loop-k-smaller
loop-k-smaller t c = omega (arith, c.loop-k-test.true)

pub loop-k-preserved : goal.loop-k-preserved
loop-k-preserved t c = going_on _ _ _ _ _ _ _ _ _ _ _ _ _ _ _ _ _ _ _ c.loop-k.invariant c.loop-k-test.true _ c.scope-e.ensures _ c.first_label-l.ensures _ c.in_ok-t.ensures c.if-nest-eq0.false _ c.in_ok-b.ensures _ c.both-a.ensures

pub returns-in_err-b : goal.returns-in_err-b
returns-in_err-b t c = rw c.from_residual-in_err-b.ensures (stop-inside _ _ _ _ _ _ _ _ _ _ _ _ _ _ _ _ _ _ _ c.loop-k.invariant c.loop-k-test.true _ c.scope-e.ensures _ c.first_label-l.ensures _ c.in_ok-t.ensures c.if-nest-eq0.false c.in_err-b.ensures)

pub returns-in_err-t : goal.returns-in_err-t
returns-in_err-t t c = rw c.from_residual.ensures (stop-token _ _ _ _ _ _ _ _ _ _ _ _ _ _ _ _ _ _ _ c.loop-k.invariant c.loop-k-test.true _ c.scope-e.ensures _ c.first_label-l.ensures c.in_err-t.ensures)

pub returns : goal.returns
returns t c = going_end _ _ _ _ _ _ _ _ _ _ _ _ _ _ _ _ _ _ _ c.loop-k.invariant (search rules)
