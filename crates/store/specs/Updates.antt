-- The store with something anew: one array, then what additions write. What is said by these says of every other array that it stays.
use Rattle.std.specs.Prelude.{List, ℕ, ◌+◌, ◌*◌, get_or, set}
use Rattle.limits.specs.Limits.{max_definitions}
use Rattle.limits.specs.Sizes.{context_length}
use Rattle.store.specs.Store.{context_slot, order_slot}
use Rattle.store.specs.declared.Facts.{Facts}
use Rattle.store.specs.declared.Store.{Store}

abbrev pub with_names : Store → List ℕ → Store
with_names v l = record { names = l; facts = v.facts; contexts = v.contexts; orders = v.orders; heads = v.heads; declared = v.declared }

abbrev pub with_facts : Store → List Facts → Store
with_facts v l = record { names = v.names; facts = l; contexts = v.contexts; orders = v.orders; heads = v.heads; declared = v.declared }

abbrev pub with_contexts : Store → List ℕ → Store
with_contexts v l = record { names = v.names; facts = v.facts; contexts = l; orders = v.orders; heads = v.heads; declared = v.declared }

abbrev pub with_orders : Store → List ℕ → Store
with_orders v l = record { names = v.names; facts = v.facts; contexts = v.contexts; orders = l; heads = v.heads; declared = v.declared }

abbrev pub with_heads : Store → List ℕ → Store
with_heads v l = record { names = v.names; facts = v.facts; contexts = v.contexts; orders = v.orders; heads = l; declared = v.declared }

abbrev pub with_declared : Store → List ℕ → Store
with_declared v l = record { names = v.names; facts = v.facts; contexts = v.contexts; orders = v.orders; heads = v.heads; declared = l }

-- the name and the facts of code o,
abbrev pub with_row : Store → ℕ → ℕ → Facts → Store
with_row v o name r = with_facts (with_names v (set v.names o name)) (set v.facts o r)

-- the head of module m, its lists empty,
unfoldable pub headed : List ℕ → ℕ → ℕ → List ℕ
headed heads m name = set (set (set heads m name) (context_slot m) 0) (order_slot m) 0

-- a code after the context of module m, a number after its definitions,
abbrev pub with_code : List ℕ → List ℕ → ℕ → ℕ → List ℕ
with_code contexts heads m o = set contexts (m * context_length + get_or heads (context_slot m) 0) o

abbrev pub with_number : List ℕ → List ℕ → ℕ → ℕ → List ℕ
with_number orders heads m g = set orders (m * max_definitions + get_or heads (order_slot m) 0) g

-- a list one longer, by the place of its length,
abbrev pub longer : List ℕ → ℕ → List ℕ
longer heads slot = set heads slot (get_or heads slot 0 + 1)

-- both lists of module m one longer,
unfoldable pub grown : List ℕ → ℕ → List ℕ
grown heads m = set (set heads (context_slot m) (get_or heads (context_slot m) 0 + 1)) (order_slot m) (get_or heads (order_slot m) 0 + 1)

-- the same of the store,
abbrev pub in_context : Store → ℕ → ℕ → Store
in_context v m o = with_heads (with_contexts v (with_code v.contexts v.heads m o)) (longer v.heads (context_slot m))

abbrev pub in_order : Store → ℕ → ℕ → Store
in_order v m g = with_heads (with_orders v (with_number v.orders v.heads m g)) (longer v.heads (order_slot m))

-- a definition's number after both.
abbrev pub in_both : Store → ℕ → ℕ → Store
in_both v m g =
    with_heads (with_orders (with_contexts v (with_code v.contexts v.heads m g)) (with_number v.orders v.heads m g)) (grown v.heads m)
