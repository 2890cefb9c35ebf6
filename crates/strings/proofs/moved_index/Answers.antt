use Rattle.strings.proofs.Cases.{free-fits, free-index, own-index}
use Rattle.strings.proofs.moved_index.Goals as goal

pub overflow_cast-result : goal.overflow_cast-result
overflow_cast-result c = search free-fits

pub returns-then-i-c : goal.returns-then-i-c
returns-then-i-c c = search own-index

pub returns-else-i-c : goal.returns-else-i-c
returns-else-i-c c = search free-index
