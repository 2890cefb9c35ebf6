use Rattle.levels.proofs.Heads.{is-parameter, is_bound, is_name_lem, is-operator, is-built-in, is-literal}
use borrow.Author.Rules.{rules}
use Rattle.levels.proofs.meaning.Meanings.token_step.Goals as goal

pub returns-in-Parameter : goal.returns-in-Parameter
returns-in-Parameter c = search (rules, is-parameter)

pub returns-in-Bound : goal.returns-in-Bound
returns-in-Bound c = search (rules, is_bound)

pub returns-in-Name : goal.returns-in-Name
returns-in-Name c = search (rules, is_name_lem)

pub returns-in-InstanceOperator : goal.returns-in-InstanceOperator
returns-in-InstanceOperator c = search (rules, is-operator)

pub returns-in-BuiltIn : goal.returns-in-BuiltIn
returns-in-BuiltIn c = search (rules, is-built-in)

pub returns-in-Literal : goal.returns-in-Literal
returns-in-Literal c = search (rules, is-literal)
