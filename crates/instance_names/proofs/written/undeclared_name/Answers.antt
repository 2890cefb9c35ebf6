use mathlib.Core.Path.{refl}
use native.Mathlib.Numerals.{unary_clauses}
use Rattle.instance_names.proofs.Turns.{undeclared-end, undeclared-hit, undeclared-next, undeclared-past}
use borrow.Author.Rules.{rules}
use Rattle.instance_names.proofs.written.undeclared_name.Goals as goal

pub loop-init : goal.loop-init
loop-init c = simp unary_clauses refl

pub returns-then-file-at : goal.returns-then-file-at
returns-then-file-at c = search (rules, undeclared-past)

pub returns-then-undeclared_at : goal.returns-then-undeclared_at
returns-then-undeclared_at c = search (rules, undeclared-hit)

pub loop-preserved : goal.loop-preserved
loop-preserved c = search (rules, undeclared-next)

pub returns : goal.returns
returns c = search (rules, undeclared-end)
