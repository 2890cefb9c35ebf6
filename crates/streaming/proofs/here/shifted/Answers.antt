use Rattle.streaming.proofs.HereCases.{narrow-var, shifted-call, shifted-code, shifted-name, shifted-number, shifted-par, shifted-var}
use borrow.Author.Rules.{rules}
use Rattle.streaming.proofs.here.shifted.Goals as goal

pub overflow_cast-result : goal.overflow_cast-result
overflow_cast-result c = search (rules, narrow-var)

pub returns-in-Par : goal.returns-in-Par
returns-in-Par c = search shifted-par

pub returns-in-Var : goal.returns-in-Var
returns-in-Var c = search shifted-var

pub returns-in-Name : goal.returns-in-Name
returns-in-Name c = search shifted-name

pub returns-in-Code : goal.returns-in-Code
returns-in-Code c = search shifted-code

pub returns-in-Number : goal.returns-in-Number
returns-in-Number c = search shifted-number

pub returns-in-Call : goal.returns-in-Call
returns-in-Call c = search shifted-call
