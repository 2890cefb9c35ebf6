use Rattle.strings.proofs.Cases.{opened-begin, opened-end}
use borrow.Author.Rules.{rules}
use Rattle.strings.proofs.opened.Goals as goal

pub returns-in-Begin : goal.returns-in-Begin
returns-in-Begin c = (search opened-begin, search rules)

pub returns-in-End : goal.returns-in-End
returns-in-End c = (search opened-end, search rules)
