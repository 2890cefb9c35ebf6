use Rattle.forms.specs.Forms.{level_at}
use Rattle.forms.proofs.Finding.{Found}
use Rattle.forms.proofs.card.card_of.Given as goal

abbrev pub invariant-loop-i : goal.invariant-loop-i
invariant-loop-i l = Found l.n (level_at l.form) l.masks l.weights l.pairs l.i
