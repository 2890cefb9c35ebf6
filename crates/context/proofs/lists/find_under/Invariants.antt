use Prim.Native.Nat.{◌-◌}
use mathlib.Core.Path.{◌≡◌}
use Rattle.context.specs.Lookup.{code_under}
use Rattle.theory.specs.Lists.{numbers_from}
use Rattle.context.proofs.lists.find_under.Given as goal

abbrev pub invariant-loop-i : goal.invariant-loop-i
invariant-loop-i l = code_under l.store.names l.store.facts l.instance l.name (numbers_from l.i (l.end - l.i)) ≡ code_under l.store.names l.store.facts l.instance l.name (numbers_from l.from (l.end - l.from))
