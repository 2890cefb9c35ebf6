use Rattle.levels.proofs.Heads.{bit_past}
use borrow.Author.Rules.{rules}
use Rattle.levels.proofs.steps.bit_of.Goals as goal

pub returns-else-j-lt64 : goal.returns-else-j-lt64
returns-else-j-lt64 c = (search (bit_past, rules), search rules)
