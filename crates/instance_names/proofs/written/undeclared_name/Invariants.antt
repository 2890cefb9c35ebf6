use mathlib.Core.Path.{◌≡◌}
use Rattle.instance_names.specs.Sites.{undeclared_in}
use Prim.Native.Nat.{◌-◌}
use Rattle.instance_names.proofs.written.undeclared_name.Given as goal

abbrev pub invariant-loop : goal.invariant-loop
invariant-loop l =
    undeclared_in l.file l.store.names l.store.facts l.store.contexts l.store.heads l.x (l.x.count - l.counter) l.at ≡ undeclared_in l.file l.store.names l.store.facts l.store.contexts l.store.heads l.x l.x.count l.x.at
