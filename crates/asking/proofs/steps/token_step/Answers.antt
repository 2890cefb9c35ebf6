-- `steps::token_step`: one lemma for each kind of token.
use Rattle.asking.proofs.Stepping.{told-bound, told-code, told-literal, told-name, told-operator, told-parameter}
use borrow.Author.Rules.{rules}
use Rattle.asking.proofs.steps.token_step.Goals as goal

pub returns-in-Parameter : goal.returns-in-Parameter
returns-in-Parameter c = search (rules, told-parameter)

pub returns-in-Bound : goal.returns-in-Bound
returns-in-Bound c = search (rules, told-bound)

pub returns-in-Name : goal.returns-in-Name
returns-in-Name c = search (rules, told-name)

pub returns-in-InstanceOperator : goal.returns-in-InstanceOperator
returns-in-InstanceOperator c = search (rules, told-operator)

pub returns-in-BuiltIn : goal.returns-in-BuiltIn
returns-in-BuiltIn c = search (rules, told-code)

pub returns-in-Literal : goal.returns-in-Literal
returns-in-Literal c = search (rules, told-literal)
