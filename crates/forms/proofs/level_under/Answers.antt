use Rattle.forms.proofs.Contracts.{level-under-is}
use borrow.Author.Rules.{rules}
use Rattle.forms.proofs.level_under.Goals as goal

pub returns : goal.returns
returns c = search (rules, level-under-is)
