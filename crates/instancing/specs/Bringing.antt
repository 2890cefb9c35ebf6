-- INSTANCE: the definitions that it brings, one after the other, and then what is kept of the field.
use Rattle.std.specs.Prelude.{cond, List, [], ◌∷◌, ℕ, suc, ◌+◌, ◌%◌, eqb, get_or}
use Rattle.context.specs.Entries.{field_code, instance_kind, order_of, word_count}
use Rattle.store.specs.Store.{context_slot, count_at, first_at, kind_at, order_slot, row, via_at}
use Rattle.store.specs.declared.Store.{Store}
use Rattle.store.specs.Updates.{grown, longer, with_code, with_contexts, with_heads, with_number, with_orders, with_row}
use Rattle.context.specs.declared.Counts.{Counts}
use Rattle.store.specs.declared.Facts.{Facts}

-- the instance name that a definition gets: that of the instance, or else the one it has
unfoldable pub via_under : ℕ → ℕ → ℕ
via_under name old = cond (eqb name 0) old name

-- a definition brought from g by an instance of that name with p parameters
unfoldable pub brought_row : List Facts → ℕ → ℕ → ℕ → ℕ → Facts
brought_row facts g p name link =
    row ((p + kind_at facts g) % word_count) (first_at facts g) (count_at facts g) (via_under name (via_at facts g)) g link

-- its name comes into the context where the instance has none
unfoldable pub pushed_contexts : List ℕ → List ℕ → ℕ → ℕ → ℕ → List ℕ
pushed_contexts contexts heads m g name = cond (eqb name 0) (with_code contexts heads m g) contexts

unfoldable pub pushed_heads : List ℕ → ℕ → ℕ → List ℕ
pushed_heads heads m name = cond (eqb name 0) (grown heads m) (longer heads (order_slot m))

-- its number comes after the definitions of module m
abbrev pub pushed_as : Store → ℕ → ℕ → ℕ → Store
pushed_as v m g name =
    with_heads (with_orders (with_contexts v (pushed_contexts v.contexts v.heads m g name)) (with_number v.orders v.heads m g))
    (pushed_heads v.heads m name)

-- definition o of module m, brought from g
unfoldable pub bring_one : ℕ → ℕ → ℕ → ℕ → Store → ℕ → ℕ → Store
bring_one m p name link v o g = pushed_as (with_row v o (get_or v.names g 0) (brought_row v.facts g p name link)) m o name

-- definitions o up, brought from those given
unfoldable pub bring_all : ℕ → ℕ → ℕ → ℕ → Store → ℕ → List ℕ → Store
bring_all m p name link v o [] = v
bring_all m p name link v o (g ∷ gs) = bring_all m p name link (bring_one m p name link v o g) (suc o) gs

-- what is kept of the field; its name comes into the context if it has one
unfoldable pub instance_noted : ℕ → ℕ → ℕ → Facts → Store → Store
instance_noted m o name r v =
    with_heads (with_contexts (with_row v o name r) (cond (eqb name 0) v.contexts (with_code v.contexts v.heads m o)))
    (cond (eqb name 0) v.heads (longer v.heads (context_slot m)))

-- an INSTANCE field: its name or 0, its parameter count, the number of the module instanced, where its first substitution stands, and how many
-- there are with the module that the field stands in, as one number
abbrev pub instance_row : ℕ → ℕ → ℕ → ℕ → ℕ → ℕ → Facts
instance_row p first count q at written = row (instance_kind + p) first count q at written

unfoldable pub instancing : Counts → ℕ → ℕ → ℕ → ℕ → ℕ → Store → Store
instancing c name p q at written v =
    instance_noted c.modules (field_code c.fields) name (instance_row p c.definitions (get_or v.heads (order_slot q) 0) q at written)
    (bring_all c.modules p name (c.fields + 1) v c.definitions (order_of v.orders v.heads q))
