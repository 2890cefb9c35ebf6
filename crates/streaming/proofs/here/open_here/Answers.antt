use Rattle.streaming.proofs.HereCases.{opens-begin, opens-lost}
use borrow.Author.Rules.{rules}
use Rattle.streaming.proofs.here.open_here.Goals as goal

pub returns-then-b-lt-BRACKETS : goal.returns-then-b-lt-BRACKETS
returns-then-b-lt-BRACKETS c = search (rules, opens-begin)

pub returns : goal.returns
returns c = search (rules, opens-lost)
