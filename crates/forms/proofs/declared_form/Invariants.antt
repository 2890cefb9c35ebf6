use Rattle.forms.proofs.Highest.{Joined}
use Rattle.forms.proofs.declared_form.Given as goal

abbrev pub invariant-loop-i : goal.invariant-loop-i
invariant-loop-i l = Joined l.k l.form l.i
