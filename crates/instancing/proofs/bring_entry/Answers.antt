use Rattle.instancing.proofs.Brings.{brought-row}
use borrow.Author.Rules.{rules}
use Rattle.instancing.proofs.bring_entry.Goals as goal

pub returns : goal.returns
returns c = search (rules, brought-row)
