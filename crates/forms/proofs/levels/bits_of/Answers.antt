use Rattle.forms.proofs.Reading.{bits-low, bits-two, bits-three, bits-high}
use borrow.Author.Rules.{rules}
use Rattle.forms.proofs.levels.bits_of.Goals as goal

pub returns-then-l-lt2 : goal.returns-then-l-lt2
returns-then-l-lt2 c = search (rules, bits-low)

pub returns-then-l-eq2 : goal.returns-then-l-eq2
returns-then-l-eq2 c = search (rules, bits-two)

pub returns-then-l-eq3 : goal.returns-then-l-eq3
returns-then-l-eq3 c = search (rules, bits-three)

pub returns : goal.returns
returns c = search (rules, bits-high)
