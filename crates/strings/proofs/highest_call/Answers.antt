use Rattle.strings.proofs.Turns.{highest-end, highest-turn}
use borrow.Author.Rules.{rules}
use Rattle.strings.proofs.highest_call.Goals as goal

pub loop-i-preserved : goal.loop-i-preserved
loop-i-preserved c = (search rules, search rules, search highest-turn)

pub returns : goal.returns
returns c = search highest-end
