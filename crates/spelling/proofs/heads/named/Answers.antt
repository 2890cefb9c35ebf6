use Rattle.spelling.proofs.Heading.{named-declared, named-own, named-stand-in}
use borrow.Author.Rules.{rules}
use Rattle.spelling.proofs.heads.named.Goals as goal

pub returns-then-r-lt-DEFINITIONS : goal.returns-then-r-lt-DEFINITIONS
returns-then-r-lt-DEFINITIONS c = search (rules, named-own)

pub returns-then-site-eq0 : goal.returns-then-site-eq0
returns-then-site-eq0 c = search (rules, named-declared)

pub returns : goal.returns
returns c = search (rules, named-stand-in)
