use Rattle.forms.specs.Forms.{level_at}
use Rattle.forms.proofs.Finding.{Pairing}
use Rattle.forms.proofs.card.add_pairs.Given as goal

abbrev pub invariant-loop-i : goal.invariant-loop-i
invariant-loop-i l = Pairing (level_at l.form) l.j l.before l.pairs l.i
