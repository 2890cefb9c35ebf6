use mathlib.Core.Path.{◌∙◌, refl, sym}
use Rattle.context.proofs.Search.{found_none, hit, next}
use Rattle.context.proofs.lists.find_where.Goals as goal

pub loop-i-init : goal.loop-i-init
loop-i-init g c = λ t a. refl

pub returns-then-test : goal.returns-then-test
returns-then-test g c = λ t a.
    hit t _ c.loop-i.i c.args.end _ c.loop-i-test.true c.context_at-o.ensures _ (c.loop-i.invariant t a)
    (sym (a c.context_at-o.result c.test.result c.context_at-o.type_inv c.test.ensures) ∙ c.if-test.true)

pub loop-i-preserved : goal.loop-i-preserved
loop-i-preserved g c = λ t a.
    next t _ c.loop-i.i c.args.end _ c.loop-i-test.true c.context_at-o.ensures _ (c.loop-i.invariant t a)
    (sym (a c.context_at-o.result c.test.result c.context_at-o.type_inv c.test.ensures) ∙ c.if-test.false)

pub returns : goal.returns
returns g c = λ t a. found_none t _ c.loop-i.i c.args.end _ (c.loop-i.invariant t a) c.loop-i-test.false
