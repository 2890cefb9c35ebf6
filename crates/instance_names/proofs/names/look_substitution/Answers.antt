use Rattle.instance_names.proofs.LookTurns.{look_one}
use borrow.Author.Rules.{rules}
use Rattle.instance_names.proofs.names.look_substitution.Goals as goal

pub returns : goal.returns
returns c = search (rules, look_one)
