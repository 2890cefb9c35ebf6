-- `making::highest_number`: what is left has no higher number than what is found and what is left.
use Rattle.templates.proofs.Highest.{highest-end, highest-turn, most-small}
use borrow.Author.Rules.{rules}
use Rattle.templates.proofs.making.highest_number.Goals as goal

pub loop-i-preserved : goal.loop-i-preserved
loop-i-preserved c = (search rules, search rules, search highest-turn, search most-small)

pub returns : goal.returns
returns c = (search highest-end, search rules)
