-- `passes::replace_calls`: a string too heavy belongs to an expansion too long, and so does a call of a definition whose template does not fit.
use borrow.Author.Rules.{rules}
use Rattle.expanding.proofs.Passing.{step-heavy, step-no-template, step-rewritten}
use Rattle.expanding.proofs.passes.replace_calls.Goals as goal

pub returns-then-string_weight-gt-EXPANSION_BYTES : goal.returns-then-string_weight-gt-EXPANSION_BYTES
returns-then-string_weight-gt-EXPANSION_BYTES c = search (rules, step-heavy)

pub returns-in_err-tlen : goal.returns-in_err-tlen
returns-in_err-tlen c = search (rules, step-no-template, c.in_err-tlen.was)

pub returns : goal.returns
returns c = step-rewritten _ _ _ _ _ _ _ _ _ _ _ c.template.ensures _ c.in_ok-tlen.was _ _ c.requires.2
    c.rewrite.ensures
