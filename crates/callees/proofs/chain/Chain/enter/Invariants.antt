use Rattle.callees.proofs.Going.{Upto}
use Rattle.callees.proofs.chain.Chain.enter.Given as goal

abbrev pub invariant-loop-l : goal.invariant-loop-l
invariant-loop-l l =
    Upto l.store l.d l.l l.self.numbers l.self.currents l.self.outers
