use Rattle.forms.specs.Forms.{level_at}
use Rattle.forms.proofs.Finding.{Weighing}
use Rattle.forms.proofs.probing.weighs.Given as goal

abbrev pub invariant-loop-l : goal.invariant-loop-l
invariant-loop-l l = Weighing (level_at l.form) l.i l.l
