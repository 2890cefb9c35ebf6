use Rattle.instance_names.proofs.Turns.{miscounted-look, miscounted-not}
use borrow.Author.Rules.{rules}
use Rattle.instance_names.proofs.implied.itself_miscounted.Goals as goal

pub returns-then-stands_for_itself : goal.returns-then-stands_for_itself
returns-then-stands_for_itself c = search (rules, miscounted-look)

pub returns : goal.returns
returns c = search (rules, miscounted-not)
