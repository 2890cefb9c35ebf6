-- `names::place_of`: below 256 a definition, from there on a declaration.
use Rattle.tokens.proofs.Places.{tests}
use borrow.Author.Rules.{rules}
use Rattle.levels.proofs.names.place_of.Goals as goal

pub returns-then-i-lt-DEFINITIONS : goal.returns-then-i-lt-DEFINITIONS
returns-then-i-lt-DEFINITIONS c = search (tests, rules)

pub returns-else-i-lt-DEFINITIONS : goal.returns-else-i-lt-DEFINITIONS
returns-else-i-lt-DEFINITIONS c = search (tests, rules)
