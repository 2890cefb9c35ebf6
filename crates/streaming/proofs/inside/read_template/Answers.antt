use borrow.Author.Rules.{rules}
use Rattle.streaming.proofs.InsideCases.{read-begin, read-call, read-code, read-end, read_name, read_number, read-par, read-var}
use Rattle.streaming.proofs.inside.read_template.Goals as goal

pub returns-in-Par : goal.returns-in-Par
returns-in-Par c = search (rules, read-par)

pub returns-in-Var : goal.returns-in-Var
returns-in-Var c = search (rules, read-var)

pub returns-in-Name : goal.returns-in-Name
returns-in-Name c = search (rules, read_name)

pub returns-in-Code : goal.returns-in-Code
returns-in-Code c = search (rules, read-code)

pub returns-in-Number : goal.returns-in-Number
returns-in-Number c = search (rules, read_number)

pub returns-in-Call : goal.returns-in-Call
returns-in-Call c = search (rules, read-call)

pub returns-in-Begin : goal.returns-in-Begin
returns-in-Begin c = search (rules, read-begin)

pub returns-in-End : goal.returns-in-End
returns-in-End c = search (rules, read-end)
