use Rattle.instance_names.proofs.LookTurns.{look-end, look-past, look-start, look-turn}
use borrow.Author.Rules.{rules}
use Rattle.instance_names.proofs.names.look_substitutions.Goals as goal

pub loop-init : goal.loop-init
loop-init c = look-start _ _ _ _ _ _ _

pub returns-then-file-at : goal.returns-then-file-at
returns-then-file-at c = search (rules, look-past)

pub loop-preserved : goal.loop-preserved
loop-preserved c = search look-turn

pub returns : goal.returns
returns c = search (rules, look-end)
