use Rattle.strings.proofs.Cases.{index-high, index-low}
use Rattle.strings.proofs.index_bit.Goals as goal

pub returns-then-j : goal.returns-then-j
returns-then-j c = search index-low

pub returns-else-j : goal.returns-else-j
returns-else-j c = search index-high
