use Rattle.strings.proofs.Cases.{free-wide, own-narrow}
use Rattle.strings.proofs.index_wide.Goals as goal

pub returns-then-i-c : goal.returns-then-i-c
returns-then-i-c c = search own-narrow

pub returns-else-i-c : goal.returns-else-i-c
returns-else-i-c c = search free-wide
