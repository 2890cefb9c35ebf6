use Rattle.spelling.proofs.Heading.{mask-bits, mask_one}
use borrow.Author.Rules.{rules}
use Rattle.spelling.proofs.heads.mask_of.Goals as goal

pub returns-then-h-lt-ALONE : goal.returns-then-h-lt-ALONE
returns-then-h-lt-ALONE c = search (rules, mask-bits)

pub returns-else-h-lt-ALONE : goal.returns-else-h-lt-ALONE
returns-else-h-lt-ALONE c = mask_one c.args.h (search rules) (search rules)
