use Rattle.rewriting.proofs.Cases.{call-here, not-here}
use borrow.Author.Rules.{rules}
use Rattle.rewriting.proofs.Replacement.cleared.Goals as goal

pub replace-requires : goal.replace-requires
replace-requires c = (search rules, search rules, search rules, search rules, search call-here)

pub returns-else-is_call : goal.returns-else-is_call
returns-else-is_call c = (search not-here, search rules)
