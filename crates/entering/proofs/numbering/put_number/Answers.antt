-- `numbering::put_number`: a store past the end changes nothing.
use Rattle.entering.proofs.Entering.{set_past}
use borrow.Author.Rules.{rules}
use Rattle.entering.proofs.numbering.put_number.Goals as goal

pub returns-else-i-next : goal.returns-else-i-next
returns-else-i-next c = search (rules, set_past)
