use Rattle.expanding.proofs.Weighing.{weight-end, weight-turn, weight-within}
use borrow.Author.Rules.{rules}
use Rattle.expanding.proofs.passes.string_weight.Goals as goal

pub loop-i-preserved : goal.loop-i-preserved
loop-i-preserved c = (search rules, search rules, search weight-within, search weight-turn)

pub returns : goal.returns
returns c = search weight-end
