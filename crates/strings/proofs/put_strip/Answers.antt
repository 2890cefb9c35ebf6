use Rattle.strings.proofs.Turns.{strip-end, strip-turn, stripped-room, stripped-turn}
use borrow.Author.Rules.{rules}
use Rattle.strings.proofs.put_strip.Goals as goal

pub put_stripped-requires : goal.put_stripped-requires
put_stripped-requires c = (search stripped-room, search rules)

pub loop-i-preserved : goal.loop-i-preserved
loop-i-preserved c = (search rules, search rules, search rules, search stripped-turn, search strip-turn)

pub returns : goal.returns
returns c = search strip-end
