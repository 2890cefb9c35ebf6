use borrow.Author.Rules.{rules}
use Rattle.forms.proofs.Leading.{leading-start, leading-turn, leading_end}
use Rattle.forms.proofs.add_params.Goals as goal

pub loop-i-init : goal.loop-i-init
loop-i-init c = leading-start _ _ _ _ _

pub loop-i-preserved : goal.loop-i-preserved
loop-i-preserved c = search (rules, leading-turn)

pub returns : goal.returns
returns c = search (rules, leading_end)
