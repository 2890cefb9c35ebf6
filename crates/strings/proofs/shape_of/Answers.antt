use Rattle.strings.proofs.Turns.{shape-bits, shape-sole}
use Rattle.strings.proofs.shape_of.Goals as goal

pub returns-then-p-eq0 : goal.returns-then-p-eq0
returns-then-p-eq0 c = search shape-bits

pub returns-else-p-eq0 : goal.returns-else-p-eq0
returns-else-p-eq0 c = search shape-sole
