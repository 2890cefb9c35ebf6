-- `walk::judge`: the codes of the module, by place.
use Rattle.asking.proofs.Serving.{in-module}
use Rattle.asking.proofs.walk.judge.Goals as goal

pub returns-then-s-lt-BYTES : goal.returns-then-s-lt-BYTES
returns-then-s-lt-BYTES c = search in-module

pub returns-else-s-lt-BYTES : goal.returns-else-s-lt-BYTES
returns-else-s-lt-BYTES c = search in-module
