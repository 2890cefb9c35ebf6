use Rattle.forms.proofs.Finding.{mask_start, mask-turn, mask-byte, mask_end}
use borrow.Author.Rules.{rules}
use Rattle.forms.proofs.probing.mask_of.Goals as goal

pub loop-bit-init : goal.loop-bit-init
loop-bit-init c = mask_start _ _

pub loop-bit-preserved : goal.loop-bit-preserved
loop-bit-preserved c = search (rules, mask-turn)

pub overflow_cast-result : goal.overflow_cast-result
overflow_cast-result c = search (rules, mask-byte)

pub returns : goal.returns
returns c = search (rules, mask_end)
