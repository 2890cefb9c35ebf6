use Rattle.levels.proofs.Numbered.{Numbered}
use Rattle.levels.proofs.names.identity.Given as goal

abbrev pub invariant-loop-i : goal.invariant-loop-i
invariant-loop-i l = Numbered l.initial.numbers l.numbers l.i
