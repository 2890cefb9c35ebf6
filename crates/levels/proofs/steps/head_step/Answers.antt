use Rattle.levels.proofs.Heads.{headed}
use borrow.Author.Rules.{rules}
use Rattle.levels.proofs.steps.head_step.Goals as goal

pub returns : goal.returns
returns c = search (rules, headed)
