use Rattle.cells.specs.Words.{word_at}
use borrow.Author.Rules.{rules}
use Rattle.cells.proofs.word.Goals as goal

-- src/lib.rt:28:1
pub returns : goal.returns
unfolding word_at
returns c = search rules
