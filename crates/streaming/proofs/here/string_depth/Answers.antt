use Rattle.streaming.proofs.HereCases.{opened-call, opened-code, opened-name, opened-number, opened-par, opened-var, opens-end, opens-none, opens-same}
use borrow.Author.Rules.{rules}
use Rattle.streaming.proofs.here.string_depth.Goals as goal

pub returns-in-Par : goal.returns-in-Par
returns-in-Par c = search (rules, opens-none, opened-par)

pub returns-in-Var : goal.returns-in-Var
returns-in-Var c = search (rules, opens-none, opened-var)

pub returns-in-Name : goal.returns-in-Name
returns-in-Name c = search (rules, opens-none, opened-name)

pub returns-in-Code : goal.returns-in-Code
returns-in-Code c = search (rules, opens-none, opened-code)

pub returns-in-Number : goal.returns-in-Number
returns-in-Number c = search (rules, opens-none, opened-number)

pub returns-in-Call : goal.returns-in-Call
returns-in-Call c = search (rules, opens-none, opened-call)

pub returns-in-Begin : goal.returns-in-Begin
returns-in-Begin c = search (rules, opens-same)

pub returns-in-End : goal.returns-in-End
returns-in-End c = search (rules, opens-end)
