use Rattle.forms.specs.Forms.{level_at}
use Rattle.forms.proofs.Finding.{Masking}
use Rattle.forms.proofs.probing.mask_of.Given as goal

abbrev pub invariant-loop-bit : goal.invariant-loop-bit
invariant-loop-bit l = Masking (level_at l.form) l.i l.mask l.bit
