use Rattle.entering.proofs.Entering.{Entering}
use Rattle.entering.proofs.numbering.enter_numbers.Given as goal

abbrev pub invariant-loop-i : goal.invariant-loop-i
invariant-loop-i l = Entering l.store.orders l.base l.count l.first l.numbers l.initial.next l.next l.i
