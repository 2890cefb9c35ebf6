use mathlib.Core.Path.{sym, ◌∙◌}
use borrow.Author.Tests.{eq-eqb, ne_eqb}
use Rattle.tokens.proofs.built_in_token.Goals as goal

pub returns-then-arity-eq-NO_CODE : goal.returns-then-arity-eq-NO_CODE
returns-then-arity-eq-NO_CODE c = simp (eq-eqb _ 255 (sym c.arity.ensures ∙ c.if-arity-eq-NO_CODE.true))

pub returns-else-arity-eq-NO_CODE : goal.returns-else-arity-eq-NO_CODE
returns-else-arity-eq-NO_CODE c = simp (ne_eqb _ 255 (λ e. c.if-arity-eq-NO_CODE.false (c.arity.ensures ∙ e)))
