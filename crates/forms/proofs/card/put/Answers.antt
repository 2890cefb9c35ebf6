use native.Mathlib.Omega.{arith}
use Rattle.forms.proofs.Laying.{lay-start, lay-turn, lay-length, lay-whole}
use borrow.Author.Rules.{rules}
use Rattle.forms.proofs.card.put.Goals as goal

pub loop-k-init : goal.loop-k-init
loop-k-init c = lay-start _ _ _

pub bounds-out-at : goal.bounds-out-at
bounds-out-at c = omega (arith, lay-length c.loop-k.invariant (search rules) c.requires)

pub loop-k-preserved : goal.loop-k-preserved
loop-k-preserved c = search (rules, lay-turn)

pub shape_of-out : goal.shape_of-out
shape_of-out c = search (rules, lay-length)

pub returns : goal.returns
returns c = search (rules, lay-whole)
