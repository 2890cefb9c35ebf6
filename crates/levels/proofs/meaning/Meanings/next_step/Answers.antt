use Rattle.levels.proofs.Walking.{steps-code, steps-parameter}
use borrow.Author.Rules.{rules}
use Rattle.levels.proofs.meaning.Meanings.next_step.Goals as goal

pub returns-then-tag-eq4 : goal.returns-then-tag-eq4
returns-then-tag-eq4 c = search (rules, steps-code)

pub returns-then-tag-eq0 : goal.returns-then-tag-eq0
returns-then-tag-eq0 c = search (rules, steps-parameter)
