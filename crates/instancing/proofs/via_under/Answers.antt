use Rattle.instancing.proofs.Brings.{via-new, via-old}
use borrow.Author.Rules.{rules}
use Rattle.instancing.proofs.via_under.Goals as goal

pub returns-then-name-eq0 : goal.returns-then-name-eq0
returns-then-name-eq0 c = search (rules, via-old)

pub returns : goal.returns
returns c = search (rules, via-new)
