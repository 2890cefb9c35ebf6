use Rattle.forms.specs.Forms.{level_at}
use Rattle.lines.proofs.Spelling.{Spelt}
use Rattle.lines.proofs.digits.put_card.Given as goal

abbrev pub invariant-loop-k : goal.invariant-loop-k
invariant-loop-k l = Spelt l.n (level_at l.f) l.initial.out l.at l.out l.next l.k
