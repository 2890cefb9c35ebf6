use Rattle.forms.proofs.Leading.{Leading}
use Rattle.forms.proofs.add_params.Given as goal

abbrev pub invariant-loop-i : goal.invariant-loop-i
invariant-loop-i l = Leading l.form l.l l.labels l.from l.k l.f l.left l.i
