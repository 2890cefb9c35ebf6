use Rattle.strings.proofs.Cases.{wants-none, wants-some}
use borrow.Author.Rules.{rules}
use Rattle.strings.proofs.code_wants.Goals as goal

pub returns-then-k : goal.returns-then-k
returns-then-k c = (search wants-none, search rules)

pub returns-else-k : goal.returns-else-k
returns-else-k c = (search wants-some, search rules)
