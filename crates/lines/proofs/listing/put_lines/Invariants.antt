use Rattle.lines.proofs.Lines.{Lined}
use Rattle.lines.proofs.listing.put_lines.Given as goal

abbrev pub invariant-loop-g : goal.invariant-loop-g
invariant-loop-g l = Lined l.store.names l.store.facts l.words l.n l.initial.out l.at l.out l.next l.g
