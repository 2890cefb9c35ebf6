use Rattle.forms.proofs.Contracts.{param-added, param-past}
use borrow.Author.Rules.{rules}
use Rattle.forms.proofs.add_param.Goals as goal

pub returns-then-i-lt-PARAMS : goal.returns-then-i-lt-PARAMS
returns-then-i-lt-PARAMS c = search (rules, param-added)

pub returns-else-i-lt-PARAMS : goal.returns-else-i-lt-PARAMS
returns-else-i-lt-PARAMS c = param-past _ _ _ c.if-i-lt-PARAMS.false
