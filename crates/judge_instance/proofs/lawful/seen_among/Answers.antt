use Rattle.judge_instance.proofs.LevelCases.{seen_end, seen_next, seen_start}
use Rattle.judge_instance.proofs.lawful.seen_among.Goals as goal

pub loop-i-init : goal.loop-i-init
loop-i-init c = search seen_start

pub loop-i-preserved : goal.loop-i-preserved
loop-i-preserved c = search seen_next

pub returns : goal.returns
returns c = search seen_end
