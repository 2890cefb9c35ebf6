-- `shaping::next_shape`.
use Rattle.templates.proofs.Firsts.{next-alike, next-none, next-spelt}
use borrow.Author.Rules.{rules}
use Rattle.templates.proofs.shaping.next_shape.Goals as goal

pub returns-then-n-e : goal.returns-then-n-e
returns-then-n-e c = search (rules, next-none)

pub returns-then-f-e : goal.returns-then-f-e
returns-then-f-e c = search (rules, next-alike)

pub returns : goal.returns
returns c = search (rules, next-spelt)
