use Rattle.lines.proofs.Spelling.{digit_low, digit-high}
use borrow.Author.Rules.{rules}
use Rattle.lines.proofs.digits.hex_digit.Goals as goal

pub returns-then-d-lt10 : goal.returns-then-d-lt10
returns-then-d-lt10 c = search (rules, digit_low)

pub returns-else-d-lt10 : goal.returns-else-d-lt10
returns-else-d-lt10 c = search (rules, digit-high)
