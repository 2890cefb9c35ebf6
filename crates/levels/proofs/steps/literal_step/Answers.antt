use Rattle.levels.proofs.Heads.{literal-stepped}
use borrow.Author.Rules.{rules}
use Rattle.levels.proofs.steps.literal_step.Goals as goal

pub returns : goal.returns
returns c = search (rules, literal-stepped)
