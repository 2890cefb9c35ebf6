use Rattle.strings.proofs.Filling.{fill-begin, fill-call, fill-code, fill_end, fill-name, fill-number, fill-par, fill-var}
use Rattle.strings.proofs.fill_one.Goals as goal

pub returns-in-Par : goal.returns-in-Par
returns-in-Par c = search fill-par

pub returns-in-Var : goal.returns-in-Var
returns-in-Var c = search fill-var

pub returns-in-Name : goal.returns-in-Name
returns-in-Name c = search fill-name

pub returns-in-Code : goal.returns-in-Code
returns-in-Code c = search fill-code

pub returns-in-Number : goal.returns-in-Number
returns-in-Number c = search fill-number

pub returns-in-Call : goal.returns-in-Call
returns-in-Call c = search fill-call

pub returns-in-Begin : goal.returns-in-Begin
returns-in-Begin c = search fill-begin

pub returns-in-End : goal.returns-in-End
returns-in-End c = search fill_end
