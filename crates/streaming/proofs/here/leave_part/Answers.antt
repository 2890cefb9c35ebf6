use Rattle.streaming.proofs.HereCases.{leaves_all, leaves-argument}
use Rattle.streaming.proofs.here.leave_part.Goals as goal

pub returns-then-s-eq0 : goal.returns-then-s-eq0
returns-then-s-eq0 c = search leaves_all

pub returns : goal.returns
returns c = search leaves-argument
