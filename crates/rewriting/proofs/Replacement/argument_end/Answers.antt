use Rattle.rewriting.proofs.Cases.{end-no, end-yes}
use borrow.Author.Rules.{rules}
use Rattle.rewriting.proofs.Replacement.argument_end.Goals as goal

pub returns-then-h-eq1 : goal.returns-then-h-eq1
returns-then-h-eq1 c = search (rules, end-yes)

pub returns-else-h-eq1 : goal.returns-else-h-eq1
returns-else-h-eq1 c = search (rules, end-no)
