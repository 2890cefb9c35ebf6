use Rattle.forms.proofs.Reading.{Reads}
use Rattle.forms.proofs.levels.level.Given as goal

abbrev pub invariant-loop-l : goal.invariant-loop-l
invariant-loop-l l = Reads l.form l.v l.b l.left l.l-index
