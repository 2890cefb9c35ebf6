use Rattle.levels.proofs.Heads.{built-there, built-lost}
use borrow.Author.Rules.{rules}
use Rattle.levels.proofs.steps.built_in_step.Goals as goal

pub returns-then-kind-lt-NO_KIND : goal.returns-then-kind-lt-NO_KIND
returns-then-kind-lt-NO_KIND c = search (rules, built-there)

pub returns-else-kind-lt-NO_KIND : goal.returns-else-kind-lt-NO_KIND
returns-else-kind-lt-NO_KIND c = search (rules, built-lost)
