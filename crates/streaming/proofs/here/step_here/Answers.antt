use Rattle.streaming.proofs.HereSteps.{enters-call, leaves-part, writes-symbol}
use borrow.Author.Rules.{rules}
use Rattle.streaming.proofs.here.step_here.Goals as goal

pub returns-then-s : goal.returns-then-s
returns-then-s c = search (rules, leaves-part)

pub returns-then-s-known : goal.returns-then-s-known
returns-then-s-known c = search (rules, enters-call)

pub returns : goal.returns
returns c = search (rules, writes-symbol)
