use Rattle.strings.proofs.Cases.{moved_call, moved-code, moved-name, moved-number, moved-par, moved-var, narrow-var}
use borrow.Author.Rules.{rules}
use Rattle.strings.proofs.moved.Goals as goal

pub moved_index-requires : goal.moved_index-requires
moved_index-requires c = (search narrow-var, search rules)

pub returns-in-Par : goal.returns-in-Par
returns-in-Par c = search moved-par

pub returns-in-Var : goal.returns-in-Var
returns-in-Var c = search moved-var

pub returns-in-Name : goal.returns-in-Name
returns-in-Name c = search moved-name

pub returns-in-Code : goal.returns-in-Code
returns-in-Code c = search moved-code

pub returns-in-Number : goal.returns-in-Number
returns-in-Number c = search moved-number

pub returns-in-Call : goal.returns-in-Call
returns-in-Call c = search moved_call
