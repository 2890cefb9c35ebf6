-- `written::find_substitution`: what is left to search gives what was asked.
use Rattle.entering.proofs.Finding.{find-end, find_past, find-here, find-next, find-start}
use Rattle.entering.proofs.written.find_substitution.Goals as goal

pub loop-i-init : goal.loop-i-init
loop-i-init c = search find-start

pub returns-then-s-at : goal.returns-then-s-at
returns-then-s-at c = search find_past

pub returns-then-number_at-name : goal.returns-then-number_at-name
returns-then-number_at-name c = search find-here

pub loop-i-preserved : goal.loop-i-preserved
loop-i-preserved c = search find-next

pub returns : goal.returns
returns c = search find-end
