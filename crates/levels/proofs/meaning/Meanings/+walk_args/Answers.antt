use Rattle.levels.proofs.Walking.{going_end, going-fits, going-inside, going-leaf, going-low, going_on, going_start, stop-limit, stop-token}
use borrow.Author.Rules.{rules}
use Rattle.levels.proofs.meaning.Meanings.+walk_args.Goals as goal

pub loop-k-init : goal.loop-k-init
loop-k-init t c = search (rules, going_start)

pub returns-then-nest-eq0 : goal.returns-then-nest-eq0
returns-then-nest-eq0 t c = stop-limit _ _ _ _ _ _ _ _ _ _ _ _ _ _ _ c.loop-k.invariant (search rules) (search rules)

pub next_step-requires : goal.next_step-requires
next_step-requires t c = search (rules, going-low)

pub loop-k-preserved-then-t-eq0 : goal.loop-k-preserved-then-t-eq0
loop-k-preserved-then-t-eq0 t c = going-leaf _ _ _ _ _ _ _ _ _ _ _ _ _ _ _ c.loop-k.invariant (search rules) _ c.scope-e.ensures _ c.first_label-l.ensures _ c.in-Some.ensures c.if-nest-eq0.false c.if-t-eq0.true

pub loop-k-preserved-then-k-eq1 : goal.loop-k-preserved-then-k-eq1
loop-k-preserved-then-k-eq1 t c = going-inside _ _ _ _ _ _ _ _ _ _ _ _ _ _ _ c.loop-k.invariant (search rules) _ c.scope-e.ensures _ c.first_label-l.ensures _ c.in-Some.ensures c.if-nest-eq0.false c.if-k-eq1.true

pub walk_args-b-requires : goal.walk_args-b-requires
walk_args-b-requires t c = search (rules, going-fits, c.in-Some.ensures)

pub loop-k-preserved : goal.loop-k-preserved
loop-k-preserved t c = going_on _ _ _ _ _ _ _ _ _ _ _ _ _ _ _ c.loop-k.invariant (search rules) _ c.scope-e.ensures _ c.first_label-l.ensures _ c.in-Some.ensures c.if-nest-eq0.false _ _ c.walk_args-b.ensures

pub returns-in_default : goal.returns-in_default
returns-in_default t c = stop-token _ _ _ _ _ _ _ _ _ _ _ _ _ _ _ c.loop-k.invariant (search rules) _ c.scope-e.ensures c.first_label-l.result c.in_default.ensures

pub returns : goal.returns
returns t c = going_end _ _ _ _ _ _ _ _ _ _ _ _ _ _ _ c.loop-k.invariant (search rules)
