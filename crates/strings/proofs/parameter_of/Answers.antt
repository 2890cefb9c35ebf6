use Rattle.strings.proofs.Cases.{sole-par}
use borrow.Author.Rules.{rules}
use Rattle.strings.proofs.parameter_of.Goals as goal

pub returns-in-Par : goal.returns-in-Par
returns-in-Par c = (search sole-par, search rules)
