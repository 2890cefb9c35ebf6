use Rattle.forms.proofs.Laying.{Laid}
use Rattle.forms.proofs.card.put.Given as goal

abbrev pub invariant-loop-k : goal.invariant-loop-k
invariant-loop-k l = Laid l.card l.initial.out l.at l.out l.k
