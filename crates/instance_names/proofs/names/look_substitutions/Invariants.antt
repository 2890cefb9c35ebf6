use Rattle.instance_names.proofs.LookTurns.{Looked}
use Prim.Native.Nat.{◌-◌}
use Rattle.instance_names.proofs.names.look_substitutions.Given as goal

abbrev pub invariant-loop : goal.invariant-loop
invariant-loop l =
    Looked l.file l.store.names l.store.facts l.store.contexts l.store.heads l.x l.initial.refs l.refs l.at (l.x.count - l.counter) l.unknown l.miscounted
