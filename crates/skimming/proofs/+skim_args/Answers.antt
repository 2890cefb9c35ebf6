-- `skim_args`, which calls itself where an argument that others follow has arguments: the nesting falls.
use native.Mathlib.Omega.{arith}
use Rattle.skimming.proofs.Walking.{going-below, going_end, going-inside, going-leaf, going-low, going_on, going_start, going-within, stop-inside, stop-limit, stop-token}
use borrow.Author.Rules.{rules}
use Rattle.skimming.proofs.+skim_args.Goals as goal

pub loop-k-init : goal.loop-k-init
loop-k-init t c = search (rules, going_start)

pub returns-then-nest-eq0 : goal.returns-then-nest-eq0
returns-then-nest-eq0 t c = search stop-limit

pub next_step-requires : goal.next_step-requires
next_step-requires t c = (c.requires.0, search going-low)

pub returns-in_err-t : goal.returns-in_err-t
returns-in_err-t t c = rw c.from_residual.ensures (search (stop-token, c.in_err-t.ensures))

pub loop-k-preserved-then-t-eq0 : goal.loop-k-preserved-then-t-eq0
loop-k-preserved-then-t-eq0 t c = going-leaf _ _ _ _ _ _ _ _ _ _ _ _ _ _ _ c.loop-k.invariant (search rules) _ c.under-e.ensures _ c.in_ok-t.ensures c.if-nest-eq0.false c.if-t-eq0.true

pub loop-k-preserved-then-k-eq1 : goal.loop-k-preserved-then-k-eq1
loop-k-preserved-then-k-eq1 t c = search (rules, going-inside, c.in_ok-t.ensures)

pub skim_args-requires : goal.skim_args-requires
skim_args-requires t c = (omega (arith, c.loop-k.invariant.deep), (c.requires.0, going-below _ _ _ _ _ _ _ _ _ _ _ _ _ _ _ c.loop-k.invariant _ c.under-e.ensures, going-within _ _ _ _ _ _ _ _ _ _ _ _ _ _ _ c.loop-k.invariant _ c.under-e.ensures _ c.in_ok-t.ensures c.if-nest-eq0.false, c.in_ok-t.ensures.few))

pub returns-in_err-b : goal.returns-in_err-b
returns-in_err-b t c = rw c.from_residual-in_err-b.ensures (search (stop-inside, c.in_ok-t.ensures, c.in_err-b.ensures))

pub loop-k-preserved : goal.loop-k-preserved
loop-k-preserved t c = going_on _ _ _ _ _ _ _ _ _ _ _ _ _ _ _ c.loop-k.invariant (search rules) _ c.under-e.ensures _ c.in_ok-t.ensures c.if-nest-eq0.false _ c.in_ok-b.ensures _ c.both-a.ensures

pub returns : goal.returns
returns t c = search going_end
