use Rattle.instance_names.proofs.Turns.{definition-over}
use borrow.Author.Rules.{rules}
use Rattle.instance_names.proofs.limits_kept.definition_over.Goals as goal

pub returns : goal.returns
returns c = search (rules, definition-over)
