use borrow.Author.Rules.{rules}
use Rattle.streaming.proofs.InsideWhole.{left-steps, read-steps}
use Rattle.streaming.proofs.inside.step_inside.Goals as goal

pub returns-then-tlen-s : goal.returns-then-tlen-s
returns-then-tlen-s c = search (rules, left-steps)

pub returns : goal.returns
returns c = search (rules, read-steps)
