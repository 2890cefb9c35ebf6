use Rattle.instance_names.proofs.Turns.{next_start_lem}
use borrow.Author.Rules.{rules}
use Rattle.instance_names.proofs.limits_kept.next_start.Goals as goal

pub returns : goal.returns
returns c = search (rules, next_start_lem)
