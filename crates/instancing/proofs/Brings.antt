-- One lemma for each way through the functions that bring definitions.
use borrow.Author.Tests.{ne_eqb}
use mathlib.Core.Bool.{Bool, cond, false, true}
use mathlib.Core.List.{List, [], ◌∷◌}
use mathlib.Core.Path.{◌∙◌, ◌≡◌, ap, ap₂, refl, sym}
use lib.Dec.{eqb}
use lib.ListN.{get_or, length, set}
use lib.Seq.{get_or-set_other}
use native.Mathlib.Omega.{arith}
use Prim.Native.Nat.{◌%◌, ◌*◌, ◌+◌, ◌-◌, ◌<◌, ◌≤◌, suc, zero, ℕ}
use Rattle.context.proofs.Parts.{part_end, part_length, part-set, part-turn}
use Rattle.context.specs.Parts.{part}
use Rattle.context.specs.Entries.{after_definitions, counts, field_code, word_count}
use Rattle.store.specs.Store.{context_slot, order_slot, row, row_at}
use Rattle.store.specs.declared.Store.{Store}
use Rattle.store.specs.Updates.{grown, in_both, in_context, in_order, longer, with_row}
use Rattle.context.specs.declared.Counts.{Counts}
use Rattle.store.specs.declared.Facts.{Facts}
use Rattle.instancing.specs.Bringing.{bring_all, bring_one, brought_row, instance_noted, instance_row, instancing, pushed_as, pushed_heads, pushed_contexts, via_under}
use Rattle.limits.specs.Limits.{max_definitions}
use Rattle.limits.specs.Sizes.{context_length}

pub brought-row : (v w : Store) (old : Facts) (o g p name link n y u : ℕ) → w ≡ with_row v o n (row y old.first old.count u g link) → n ≡ get_or v.names g 0
    → y ≡ (p + old.kind) % word_count → u ≡ via_under name old.via → old ≡ row_at v g → w ≡ with_row v o (get_or v.names g 0) (brought_row v.facts g p name link)
unfolding brought_row
brought-row v w old o g p name link n y u e f h j k = rw (e, f, h, j, k) refl

pub via-old : (name old : ℕ) → name ≡ 0 → old ≡ via_under name old
unfolding via_under
via-old name old z = rw z refl

pub via-new : (name old : ℕ) → (name ≡ 0 → ⊥) → name ≡ via_under name old
unfolding via_under
via-new name old n = rw (ne_eqb name 0 n) refl

-- what writing a row leaves as it is
pub row-head : (v w : Store) (o name i n : ℕ) (r : Facts) → w ≡ with_row v o name r → get_or v.heads i 0 < n → get_or w.heads i 0 < n
row-head v w o name i n r e h = rw e h

module _ (v w : Store) (m g name : ℕ) where
  pub pushed-plain : w ≡ in_both v m g → name ≡ 0 → w ≡ pushed_as v m g name
  unfolding pushed_contexts pushed_heads
  pushed-plain e z = rw (z, e) refl

  pub pushed-named : w ≡ in_order v m g → (name ≡ 0 → ⊥) → w ≡ pushed_as v m g name
  unfolding pushed_contexts pushed_heads
  pushed-named e n = rw (ne_eqb name 0 n, e) refl

pub bring-both : (v w x : Store) (m p name link o g : ℕ) → w ≡ with_row v o (get_or v.names g 0) (brought_row v.facts g p name link) → x ≡ pushed_as w m o name
    → x ≡ bring_one m p name link v o g
unfolding bring_one
bring-both v w x m p name link o g e f = rw (f, e) refl

-- a turn

set-most : (l : List ℕ) (i x : ℕ) → get_or (set l i x) i 0 ≤ x
set-most [] i x = omega arith
set-most (y ∷ l) zero x = omega arith
set-most (y ∷ l) (suc i) x = set-most l i x

module _ (heads : List ℕ) (m : ℕ) where
  head-grown : (name : ℕ) → get_or (pushed_heads heads m name) (context_slot m) 0 ≤ get_or heads (context_slot m) 0 + 1
  unfolding pushed_heads grown
  head-grown name = go (eqb name 0)
    where
      other : (l : List ℕ) (x : ℕ) → get_or (set l (order_slot m) x) (context_slot m) 0 ≡ get_or l (context_slot m) 0
      other l x = get_or-set_other l (order_slot m) (context_slot m) x 0 (λ (z : context_slot m ≡ order_slot m). omega arith)

      go : (t : Bool) → get_or (cond t (set (longer heads (context_slot m)) (order_slot m) (get_or heads (order_slot m) 0 + 1)) (longer heads (order_slot m))) (context_slot m) 0 ≤ get_or heads (context_slot m) 0 + 1
      go true = rw (other (longer heads (context_slot m)) (get_or heads (order_slot m) 0 + 1)) (set-most heads (context_slot m) (get_or heads (context_slot m) 0 + 1))
      go false = rw (other heads (get_or heads (order_slot m) 0 + 1)) (omega arith)

  list-grown : (name : ℕ) → get_or (pushed_heads heads m name) (order_slot m) 0 ≤ get_or heads (order_slot m) 0 + 1
  unfolding pushed_heads grown
  list-grown name = go (eqb name 0)
    where
      go : (t : Bool) → get_or (cond t (set (longer heads (context_slot m)) (order_slot m) (get_or heads (order_slot m) 0 + 1)) (longer heads (order_slot m))) (order_slot m) 0 ≤ get_or heads (order_slot m) 0 + 1
      go true = set-most (longer heads (context_slot m)) (order_slot m) (get_or heads (order_slot m) 0 + 1)
      go false = set-most heads (order_slot m) (get_or heads (order_slot m) 0 + 1)

module _ (v w : Store) (m p name link o g i end : ℕ) (e : w ≡ bring_one m p name link v o g) (l : i < end) where
  pub context_room : get_or v.heads (context_slot m) 0 + (end - i) ≤ context_length → get_or w.heads (context_slot m) 0 + (end - (i + 1)) ≤ context_length
  unfolding bring_one
  context_room h = rw e (omega (arith, head-grown v.heads m name))

  pub order_room : get_or v.heads (order_slot m) 0 + (end - i) ≤ max_definitions → get_or w.heads (order_slot m) 0 + (end - (i + 1)) ≤ max_definitions
  unfolding bring_one
  order_room h = rw e (omega (arith, list-grown v.heads m name))

pub bring-turn : (v w u : Store) (m p name link o g i end next : ℕ) → next ≡ suc o → w ≡ bring_one m p name link v o g → bring_all m p name link v o (part v.orders i (end - i)) ≡ u
    → g ≡ get_or v.orders i 0 → i < end → end ≤ m * max_definitions → bring_all m p name link w next (part w.orders (i + 1) (end - (i + 1))) ≡ u
unfolding bring_all bring_one
bring-turn v w u m p name link o g i end next up stores same f l k =
    ap₂ (bring_all m p name link w) up rest
    ∙ ap (λ (x : Store). bring_all m p name link x (suc o) (part v.orders (i + 1) (end - (i + 1)))) stores
    ∙ ap (λ (x : ℕ). bring_all m p name link v o (x ∷ part v.orders (i + 1) (end - (i + 1)))) f
    ∙ ap (bring_all m p name link v o) (sym (part-turn v.orders i end l)) ∙ same
  where
    rest : part w.orders (i + 1) (end - (i + 1)) ≡ part v.orders (i + 1) (end - (i + 1))
    rest =
        ap (λ (x : Store). part x.orders (i + 1) (end - (i + 1))) stores
        ∙ part-set v.orders (m * max_definitions + get_or v.heads (order_slot m) 0) o (i + 1) (end - (i + 1))
        (λ (j : ℕ) (q : j < end - (i + 1)) (z : i + 1 + j ≡ m * max_definitions + get_or v.heads (order_slot m) 0). omega arith)

pub bring-done : (v : Store) (xs : List ℕ) (m p name link o i end : ℕ) (w : Store) → bring_all m p name link v o (part xs i (end - i)) ≡ w → end ≤ i → v ≡ w
unfolding bring_all
bring-done v xs m p name link o i end w e h = sym (ap (bring_all m p name link v o) (part_end xs i end h)) ∙ e

-- what is kept of the field

module _ (v w : Store) (m o name : ℕ) (r : Facts) (e : w ≡ with_row v o name r) where
  pub noted-plain : name ≡ 0 → w ≡ instance_noted m o name r v
  unfolding instance_noted
  noted-plain z = rw (e, z) refl

  pub noted-named : (x : Store) → x ≡ in_context w m o → (name ≡ 0 → ⊥) → x ≡ instance_noted m o name r v
  unfolding instance_noted
  noted-named x f n = rw (f, e, ne_eqb name 0 n) refl

-- the whole field

module _ (m p name link : ℕ) where
  bring-room : (gs : List ℕ) (v : Store) (o : ℕ) → get_or (bring_all m p name link v o gs).heads (context_slot m) 0 ≤ get_or v.heads (context_slot m) 0 + length gs
  unfolding bring_all bring_one
  bring-room [] v o = omega arith
  bring-room (g ∷ gs) v o =
      omega (arith, bring-room gs (bring_one m p name link v o g) (suc o), head-grown v.heads m name)

  pub noted-room : (v w : Store) (d q count : ℕ) → w ≡ bring_all m p name link v d (part v.orders (q * max_definitions) (q * max_definitions + count - q * max_definitions))
      → count ≡ get_or v.heads (order_slot q) 0 → get_or v.heads (context_slot m) 0 + get_or v.heads (order_slot q) 0 < context_length
      → get_or w.heads (context_slot m) 0 < context_length
  noted-room v w d q count e f room =
      let n : ℕ = q * max_definitions + count - q * max_definitions in
      rw e (omega (arith, bring-room (part v.orders (q * max_definitions) n) v d, part_length v.orders (q * max_definitions) n))

pub instance-counts : (c : Counts) (n k : ℕ) → n ≡ k → counts (c.fields + 1) c.declarations c.modules (c.definitions + n) ≡ after_definitions k c
instance-counts c n k e = ap (λ (i : ℕ). after_definitions i c) e

pub instance-all : (v w x : Store) (c : Counts) (name p q at written count : ℕ) → count ≡ get_or v.heads (order_slot q) 0
    → w ≡ bring_all c.modules p name (c.fields + 1) v c.definitions (part v.orders (q * max_definitions) (q * max_definitions + count - q * max_definitions))
    → x ≡ instance_noted c.modules (field_code c.fields) name (instance_row p c.definitions count q at written) w → x ≡ instancing c name p q at written v
unfolding instancing
instance-all v w x c name p q at written count e f g =
    let d : q * max_definitions + count - q * max_definitions ≡ count = omega arith in
    g ∙ ap₂ (λ (n : ℕ) (y : Store). instance_noted c.modules (field_code c.fields) name (instance_row p c.definitions n q at written) y) e
    (f ∙ ap (λ (k : ℕ). bring_all c.modules p name (c.fields + 1) v c.definitions (part v.orders (q * max_definitions) k)) (d ∙ e))
