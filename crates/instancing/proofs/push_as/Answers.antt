use Rattle.instancing.proofs.Brings.{pushed-named, pushed-plain}
use borrow.Author.Rules.{rules}
use Rattle.instancing.proofs.push_as.Goals as goal

pub returns-then-name-eq0 : goal.returns-then-name-eq0
returns-then-name-eq0 c = search (rules, pushed-plain)

pub returns : goal.returns
returns c = search (rules, pushed-named)
