use Rattle.rewriting.proofs.Cases.{turn_end, turn-less, turn_on, turn-over, turn-start}
use Rattle.rewriting.proofs.Replacement.rewrite_from.Goals as goal

pub loop-p-init : goal.loop-p-init
loop-p-init c = search turn-start

pub loop-p-smaller : goal.loop-p-smaller
loop-p-smaller c = search (turn-less, c.in_ok-t.was)

pub loop-p-preserved : goal.loop-p-preserved
loop-p-preserved c = search (turn_on, c.in_ok-t.was)

pub returns-in_err-t : goal.returns-in_err-t
returns-in_err-t c = search (turn-over, c.in_err-t.was)

pub returns : goal.returns
returns c = search turn_end
