use Rattle.levels.proofs.Heads.{parameter-stepped}
use borrow.Author.Rules.{rules}
use Rattle.levels.proofs.steps.parameter_step.Goals as goal

pub returns : goal.returns
returns c = search (rules, parameter-stepped)
