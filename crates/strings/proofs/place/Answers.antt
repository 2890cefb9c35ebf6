use lib.Seq.{paste-zero}
use Rattle.strings.proofs.Copying.{copy-end, copy-turn}
use borrow.Author.Rules.{rules}
use Rattle.strings.proofs.place.Goals as goal

pub loop-i-init : goal.loop-i-init
loop-i-init c = (search rules, search rules, search paste-zero)

pub loop-i-preserved : goal.loop-i-preserved
loop-i-preserved c = (search rules, search rules, search copy-turn)

pub returns : goal.returns
returns c = search copy-end
