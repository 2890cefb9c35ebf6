use Rattle.instance_names.proofs.Turns.{unknown-look, unknown-not}
use borrow.Author.Rules.{rules}
use Rattle.instance_names.proofs.implied.itself_unknown.Goals as goal

pub returns-then-stands_for_itself : goal.returns-then-stands_for_itself
returns-then-stands_for_itself c = search (rules, unknown-look)

pub returns : goal.returns
returns c = search (rules, unknown-not)
