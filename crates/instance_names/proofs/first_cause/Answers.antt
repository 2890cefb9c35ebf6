use Rattle.instance_names.proofs.LookTurns.{cause-4, cause-5, cause-7, cause-8, cause-none}
use borrow.Author.Rules.{rules}
use Rattle.instance_names.proofs.first_cause.Goals as goal

pub returns-then-out_of_order : goal.returns-then-out_of_order
returns-then-out_of_order c = search (rules, cause-4)

pub returns-then-over_limits : goal.returns-then-over_limits
returns-then-over_limits c = search (rules, cause-5)

pub returns-then-x : goal.returns-then-x
returns-then-x c = search (rules, cause-7)

pub returns-then-clashes : goal.returns-then-clashes
returns-then-clashes c = search (rules, cause-8)

pub returns : goal.returns
returns c = search (rules, cause-none)
