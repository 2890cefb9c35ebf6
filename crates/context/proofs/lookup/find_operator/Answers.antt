use Rattle.context.proofs.Answers.{as-operator, no-operator}
use Rattle.context.proofs.lookup.find_operator.Goals as goal

pub returns-in_err-find_entry : goal.returns-in_err-find_entry
returns-in_err-find_entry c = search (no-operator, c.in_err-find_entry.was)

pub returns : goal.returns
returns c = search (as-operator, c.in_ok-find_entry.was)
