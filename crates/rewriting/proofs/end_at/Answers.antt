use Rattle.rewriting.proofs.Cases.{ending-none, ending-short, ending-yes}
use borrow.Author.Rules.{rules}
use Rattle.rewriting.proofs.end_at.Goals as goal

pub returns-then-n-eq0 : goal.returns-then-n-eq0
returns-then-n-eq0 c = search (rules, ending-none, ending-short)

pub returns : goal.returns
returns c = search (rules, ending-yes)
