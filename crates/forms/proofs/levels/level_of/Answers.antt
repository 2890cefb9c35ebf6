use Rattle.forms.proofs.Reading.{level-low-bits, level-high-bits}
use borrow.Author.Rules.{rules}
use Rattle.forms.proofs.levels.level_of.Goals as goal

pub returns-then-b-lt2 : goal.returns-then-b-lt2
returns-then-b-lt2 c = search (rules, level-low-bits)

pub returns-else-b-lt2 : goal.returns-else-b-lt2
returns-else-b-lt2 c = search (rules, level-high-bits)
