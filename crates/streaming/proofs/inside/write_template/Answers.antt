use borrow.Author.Rules.{rules}
use Rattle.streaming.proofs.InsideCases.{no-room-now, wrote-now}
use Rattle.streaming.proofs.inside.write_template.Goals as goal

pub returns-in_default : goal.returns-in_default
returns-in_default c = search (rules, no-room-now)

pub returns : goal.returns
returns c = search (rules, wrote-now)
