use Rattle.strings.proofs.Cases.{left-call, left-code, left-name, left-number, left-par, left-var}
use borrow.Author.Rules.{rules}
use Rattle.strings.proofs.left_after.Goals as goal

pub returns-in-Par : goal.returns-in-Par
returns-in-Par c = (search left-par, search rules)

pub returns-in-Var : goal.returns-in-Var
returns-in-Var c = (search left-var, search rules)

pub returns-in-Name : goal.returns-in-Name
returns-in-Name c = (search left-name, search rules)

pub returns-in-Code : goal.returns-in-Code
returns-in-Code c = (search left-code, search rules)

pub returns-in-Number : goal.returns-in-Number
returns-in-Number c = (search left-number, search rules)

pub returns-in-Call : goal.returns-in-Call
returns-in-Call c = (search left-call, search rules)
