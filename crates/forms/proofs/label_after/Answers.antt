use Rattle.forms.proofs.Contracts.{after_none, after-some}
use borrow.Author.Rules.{rules}
use Rattle.forms.proofs.label_after.Goals as goal

pub returns-then-l-eq0 : goal.returns-then-l-eq0
returns-then-l-eq0 c = search (rules, after_none)

pub returns-else-l-eq0 : goal.returns-else-l-eq0
returns-else-l-eq0 c = search (rules, after-some)
