use Rattle.forms.proofs.Contracts.{kept-none, kept-all}
use borrow.Author.Rules.{rules}
use Rattle.forms.proofs.kept_part.Goals as goal

pub returns-then-l-eq0 : goal.returns-then-l-eq0
returns-then-l-eq0 c = search (rules, kept-none)

pub returns-else-l-eq0 : goal.returns-else-l-eq0
returns-else-l-eq0 c = search (rules, kept-all)
