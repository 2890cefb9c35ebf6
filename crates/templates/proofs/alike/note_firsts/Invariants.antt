use Rattle.templates.proofs.Firsts.{Noting}
use Rattle.templates.proofs.alike.note_firsts.Given as goal

abbrev pub invariant-loop-e : goal.invariant-loop-e
invariant-loop-e l = Noting l.store.names l.store.facts l.store.declared l.firsts l.e
