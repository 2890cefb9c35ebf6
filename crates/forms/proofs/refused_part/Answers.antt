use Rattle.forms.proofs.Contracts.{refused_none, refused_all}
use borrow.Author.Rules.{rules}
use Rattle.forms.proofs.refused_part.Goals as goal

pub returns-then-l-x-eq0 : goal.returns-then-l-x-eq0
returns-then-l-x-eq0 c = search (rules, refused_none)

pub returns-else-l-x-eq0 : goal.returns-else-l-x-eq0
returns-else-l-x-eq0 c = search (rules, refused_all)
