use Rattle.streaming.proofs.HereCases.{opens-here, opens-within}
use borrow.Author.Rules.{rules}
use Rattle.streaming.proofs.here.pass.Goals as goal

pub returns : goal.returns
returns c = search (rules, opens-here, opens-within)
