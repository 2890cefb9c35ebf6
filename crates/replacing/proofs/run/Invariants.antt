use Rattle.replacing.specs.Round.{Running}
use Rattle.replacing.proofs.run.Given as goal

abbrev pub invariant-loop-turns : goal.invariant-loop-turns
invariant-loop-turns l = Running l.a l.template l.tlen l.n l.l l.known l.initial.table l.initial.env l.initial.out l.table l.env l.out l.s
