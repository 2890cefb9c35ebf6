-- `next_step`: a parameter, a code that is none, a built-in, or another token.
use Rattle.skimming.proofs.Walking.{step-code, step-no-code, step-parameter}
use Rattle.skimming.proofs.next_step.Goals as goal

pub returns-then-tag-eq0 : goal.returns-then-tag-eq0
returns-then-tag-eq0 c = search step-parameter

pub returns-then-k : goal.returns-then-k
returns-then-k c = search step-no-code

pub returns-then-tag-eq4 : goal.returns-then-tag-eq4
returns-then-tag-eq4 c = search step-code
