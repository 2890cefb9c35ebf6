use Rattle.strings.proofs.Turns.{strip-within, stripped-end, stripped-turn}
use borrow.Author.Rules.{rules}
use Rattle.strings.proofs.stripped_length.Goals as goal

pub loop-i-preserved : goal.loop-i-preserved
loop-i-preserved c = (search rules, search rules, search strip-within, search stripped-turn)

pub returns : goal.returns
returns c = search stripped-end
