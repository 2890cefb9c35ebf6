use Rattle.forms.proofs.Finding.{bit-set, bit-free}
use borrow.Author.Rules.{rules}
use Rattle.forms.proofs.probing.with_bit.Goals as goal

pub returns-then-b : goal.returns-then-b
returns-then-b c = search (rules, bit-set)

pub returns-else-b : goal.returns-else-b
returns-else-b c = search (rules, bit-free)
