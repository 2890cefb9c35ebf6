-- `steps::next_step`: a parameter, a built-in, or another token.
use Rattle.asking.proofs.Stepping.{next-code, next-parameter}
use borrow.Author.Rules.{rules}
use Rattle.asking.proofs.steps.next_step.Goals as goal

pub returns-then-tag-eq0 : goal.returns-then-tag-eq0
returns-then-tag-eq0 c = search (rules, next-parameter)

pub returns-then-tag-eq4 : goal.returns-then-tag-eq4
returns-then-tag-eq4 c = search (rules, next-code)
