use Prim.Native.Nat.{◌+◌, ◌-◌, ◌≤◌}
use lib.ListN.{get_or}
use mathlib.Core.Path.{◌≡◌}
use Rattle.context.specs.Parts.{part}
use Rattle.store.specs.Store.{context_slot, order_slot}
use Rattle.instancing.specs.Bringing.{bring_all}
use Rattle.limits.specs.Limits.{max_definitions}
use Rattle.limits.specs.Sizes.{context_length}
use Rattle.instancing.proofs.bring_all.Given as goal

abbrev pub invariant-loop-i : goal.invariant-loop-i
invariant-loop-i l =
    (get_or l.store.heads (context_slot l.under.module) 0 + (l.end - l.i) ≤ context_length)
    × (get_or l.store.heads (order_slot l.under.module) 0 + (l.end - l.i) ≤ max_definitions)
    × (bring_all l.under.module l.under.params l.under.name l.under.link l.store (l.d + (l.i - l.from)) (part l.store.orders l.i (l.end - l.i))
    ≡ bring_all l.under.module l.under.params l.under.name l.under.link l.initial.store l.d (part l.initial.store.orders l.from (l.end - l.from)))
