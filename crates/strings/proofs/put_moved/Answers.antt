use Rattle.strings.proofs.Laying.{left-start}
use Rattle.strings.proofs.Filling.{moved-end, moved-near, moved-room, moved-short, moved-turn, moved-wide, not_wide}
use borrow.Author.Rules.{rules}
use Rattle.strings.proofs.put_moved.Goals as goal

pub loop-i-init : goal.loop-i-init
loop-i-init c = (search rules, search rules, search rules, search rules, search left-start)

pub returns-then-moves_wide : goal.returns-then-moves_wide
returns-then-moves_wide c = search moved-wide

pub returns-then-out-q : goal.returns-then-out-q
returns-then-out-q c = search moved-short

pub moved-requires : goal.moved-requires
moved-requires c = (search not_wide, search rules)

pub put-requires : goal.put-requires
put-requires c = (search moved-room, search moved-near)

pub loop-i-preserved : goal.loop-i-preserved
loop-i-preserved c = (search rules, search rules, search rules, search rules, search moved-turn)

pub returns : goal.returns
returns c = search moved-end
