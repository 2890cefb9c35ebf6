use Rattle.call_table.proofs.Rows.{step_is}
use borrow.Author.Rules.{rules}
use Rattle.call_table.proofs.step.Goals as goal

pub returns : goal.returns
returns c = (search (rules, step_is), search rules, search rules, search rules)
