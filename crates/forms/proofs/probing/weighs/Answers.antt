use Rattle.forms.proofs.Finding.{weigh-start, weigh-found, weigh-turn, weigh-end}
use borrow.Author.Rules.{rules}
use Rattle.forms.proofs.probing.weighs.Goals as goal

pub loop-l-init : goal.loop-l-init
loop-l-init c = weigh-start _ _

pub returns-then-raises : goal.returns-then-raises
returns-then-raises c = search (rules, weigh-found)

pub loop-l-preserved : goal.loop-l-preserved
loop-l-preserved c = search (rules, weigh-turn)

pub returns : goal.returns
returns c = search (rules, weigh-end)
