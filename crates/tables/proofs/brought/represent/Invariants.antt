use Rattle.tables.specs.Brought.{Represented}
use Rattle.tables.proofs.brought.represent.Given as goal

abbrev pub invariant-loop-g : goal.invariant-loop-g
invariant-loop-g l = Represented l.store.names l.g l.nexts
