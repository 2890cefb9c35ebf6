use Rattle.replacing.proofs.Running.{here_in, inside-in}
use Rattle.replacing.proofs.step.Goals as goal

pub returns-then-s : goal.returns-then-s
returns-then-s c = search inside-in

pub returns : goal.returns
returns c = search here_in
