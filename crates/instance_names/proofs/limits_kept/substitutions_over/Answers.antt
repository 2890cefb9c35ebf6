use mathlib.Core.Path.{refl}
use native.Mathlib.Numerals.{unary_clauses}
use Rattle.instance_names.proofs.Turns.{over-end, over-hit, over-next, over-past}
use borrow.Author.Rules.{rules}
use Rattle.instance_names.proofs.limits_kept.substitutions_over.Goals as goal

pub loop-init : goal.loop-init
loop-init c = simp unary_clauses refl

pub returns-then-file-at : goal.returns-then-file-at
returns-then-file-at c = search (rules, over-past)

pub returns-then-substitution_over : goal.returns-then-substitution_over
returns-then-substitution_over c = search (rules, over-hit)

pub loop-preserved : goal.loop-preserved
loop-preserved c = search (rules, over-next)

pub returns : goal.returns
returns c = search (rules, over-end)
