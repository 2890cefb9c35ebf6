-- `chain::put_row`.
use Rattle.callees.proofs.Rowing.{row_laid}
use borrow.Author.Rules.{rules}
use Rattle.callees.proofs.chain.put_row.Goals as goal

pub returns : goal.returns
returns c = row_laid _ _ _ _ _ c.copy_from_slice.ensures.after (search rules) (search rules)
