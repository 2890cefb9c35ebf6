use mathlib.Core.Path.{refl}
use Rattle.judge_plain.proofs.Joins.{join-done, join-ready, join-start, join-turn}
use borrow.Author.Rules.{rules}
use Rattle.judge_plain.proofs.extending.join_named.Goals as goal

pub loop-i-init : goal.loop-i-init
loop-i-init c = (search join-start, refl, refl)

pub extend-requires : goal.extend-requires
extend-requires c = search join-ready

pub loop-i-preserved : goal.loop-i-preserved
loop-i-preserved c = (search join-turn, search rules, search rules)

pub returns : goal.returns
returns c = search join-done
