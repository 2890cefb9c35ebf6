use Rattle.context.proofs.Answers.{under-another, under-it}
use Rattle.context.proofs.lists.stands_under.Goals as goal

pub returns-then-instance-via_at : goal.returns-then-instance-via_at
returns-then-instance-via_at c = search under-it

pub returns : goal.returns
returns c = search under-another
