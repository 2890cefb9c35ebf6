-- `chain::enter_row`.
use Rattle.callees.proofs.Rowing.{row-entered}
use borrow.Author.Rules.{rules}
use Rattle.callees.proofs.chain.enter_row.Goals as goal

pub returns : goal.returns
returns c = search (rules, row-entered)
