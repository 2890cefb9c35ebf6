use borrow.Author.Rules.{rules}
use Rattle.replacing.proofs.Running.{run-failed, run-finished, run-lost, running-on, running-start, sized_same}
use Rattle.std.proofs.lemmas.Result.{err_from_is_err_and}
use Rattle.replacing.proofs.run.Goals as goal

pub loop-turns-init : goal.loop-turns-init
loop-turns-init c = search running-start

pub step-requires : goal.step-requires
step-requires c = search (rules, sized_same)

pub returns-in-Finished : goal.returns-in-Finished
returns-in-Finished c = search (run-finished, c.in_ok-next.was)

pub returns-in_err-next : goal.returns-in_err-next
returns-in_err-next c = let p = err_from_is_err_and c.from_residual.result c.from_residual.ensures.1 in rw (p.1, p.2) (search (run-failed, c.in_err-next.was))

pub loop-turns-preserved : goal.loop-turns-preserved
loop-turns-preserved c = search (running-on, c.in_ok-next.was)

pub returns : goal.returns
returns c = search run-lost
