use Rattle.spelling.proofs.Heading.{call-passed, call-put}
use borrow.Author.Rules.{rules}
use Rattle.spelling.proofs.heads.call_head.Goals as goal

pub returns-then-h-lt-ALONE : goal.returns-then-h-lt-ALONE
returns-then-h-lt-ALONE c = search (rules, call-put)

pub returns-else-h-lt-ALONE : goal.returns-else-h-lt-ALONE
returns-else-h-lt-ALONE c = search (rules, call-passed)
