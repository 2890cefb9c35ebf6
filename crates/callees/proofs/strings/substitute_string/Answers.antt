-- `strings::substitute_string`.
use Rattle.callees.proofs.Telling.{substituted-implied, substituted-written}
use borrow.Author.Rules.{rules}
use Rattle.callees.proofs.strings.substitute_string.Goals as goal

pub returns-in-Some : goal.returns-in-Some
returns-in-Some c = search (rules, substituted-written)

pub returns-in-None : goal.returns-in-None
returns-in-None c = search (rules, substituted-implied)
