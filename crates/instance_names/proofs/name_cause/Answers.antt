use Rattle.instance_names.proofs.LookTurns.{names-10, names-11, names-9, names-none}
use borrow.Author.Rules.{rules}
use Rattle.instance_names.proofs.name_cause.Goals as goal

pub returns-then-is_unknown : goal.returns-then-is_unknown
returns-then-is_unknown c = search (rules, names-9)

pub returns-then-is_miscounted : goal.returns-then-is_miscounted
returns-then-is_miscounted c = search (rules, names-10)

pub returns-then-is_wrong : goal.returns-then-is_wrong
returns-then-is_wrong c = search (rules, names-11)

pub returns : goal.returns
returns c = search (rules, names-none)
