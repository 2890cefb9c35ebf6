use mathlib.Core.Path.{◌≡◌}
use Rattle.instance_names.specs.Sites.{substitutions_over}
use Prim.Native.Nat.{◌-◌}
use Rattle.instance_names.proofs.limits_kept.substitutions_over.Given as goal

abbrev pub invariant-loop : goal.invariant-loop
invariant-loop l =
    substitutions_over l.file l.store.names l.store.facts l.store.contexts l.store.heads l.x (l.x.count - l.counter) l.at ≡ substitutions_over l.file l.store.names l.store.facts l.store.contexts l.store.heads l.x l.x.count l.x.at
