-- `steps::name_step`: the form at the number that the name was resolved to.
use Rattle.asking.proofs.Stepping.{named_by}
use borrow.Author.Rules.{rules}
use Rattle.asking.proofs.steps.name_step.Goals as goal

pub returns : goal.returns
returns c = search (rules, named_by)
