use borrow.Author.Rules.{rules}
use Rattle.strings.proofs.Turns.{seen_end, seen-turn}
use Rattle.strings.proofs.occurring_bits.Goals as goal

pub loop-i-preserved : goal.loop-i-preserved
loop-i-preserved c = (search rules, search rules, search seen-turn)

pub returns : goal.returns
returns c = search seen_end
