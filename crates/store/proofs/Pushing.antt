-- Several words written, as one change of the store.
use mathlib.Core.List.{List}
use mathlib.Core.Path.{◌∙◌, ◌≡◌, ap, refl}
use lib.ListN.{get_or, set}
use lib.Seq.{get_or-set_other}
use native.Mathlib.Omega.{arith}
use Prim.Native.Nat.{◌*◌, ◌+◌, ◌<◌, ℕ}
use Rattle.limits.specs.Limits.{max_definitions}
use Rattle.limits.specs.Sizes.{context_length}
use Rattle.store.specs.Store.{context_slot, order_slot}
use Rattle.store.specs.Updates.{grown, headed, in_both, in_context, in_order, longer, with_contexts, with_heads, with_orders}
use Rattle.store.specs.declared.Store.{Store}

pub begun-at : (v v₁ v₂ v₃ : Store) (m name : ℕ) → v₁ ≡ with_heads v (set v.heads m name) → v₂ ≡ with_heads v₁ (set v₁.heads (context_slot m) 0)
    → v₃ ≡ with_heads v₂ (set v₂.heads (order_slot m) 0) → v₃ ≡ with_heads v (headed v.heads m name)
unfolding headed
begun-at v v₁ v₂ v₃ m name e f g = rw (g, f, e) refl

module _ (v v₁ v₂ : Store) (m n x : ℕ) where
  pub context-pushed : n ≡ get_or v.heads (context_slot m) 0 → v₁ ≡ with_contexts v (set v.contexts (m * context_length + n) x) → v₂ ≡ with_heads v₁ (set v₁.heads (context_slot m) (n + 1)) → v₂ ≡ in_context v m x
  context-pushed e f g = rw (g, f, e) refl

  pub order-pushed : n ≡ get_or v.heads (order_slot m) 0 → v₁ ≡ with_orders v (set v.orders (m * max_definitions + n) x) → v₂ ≡ with_heads v₁ (set v₁.heads (order_slot m) (n + 1)) → v₂ ≡ in_order v m x
  order-pushed e f g = rw (g, f, e) refl

-- a code pushed leaves the number of the definitions
pub slot_same : (heads h : List ℕ) (m x : ℕ) → h ≡ set heads (context_slot m) x → get_or h (order_slot m) 0 ≡ get_or heads (order_slot m) 0
slot_same heads h m x e = ap (λ (l : List ℕ). get_or l (order_slot m) 0) e ∙ get_or-set_other heads (context_slot m) (order_slot m) x 0 (λ (q : order_slot m ≡ context_slot m). omega arith)

module _ (v v₁ : Store) (m g : ℕ) (e : v₁ ≡ in_context v m g) where
  head-e : v₁.heads ≡ longer v.heads (context_slot m)
  head-e = ap (λ (w : Store). w.heads) e

  same : get_or v₁.heads (order_slot m) 0 ≡ get_or v.heads (order_slot m) 0
  same = slot_same v.heads v₁.heads m _ head-e

  pub order-stays : get_or v.heads (order_slot m) 0 < max_definitions → get_or v₁.heads (order_slot m) 0 < max_definitions
  order-stays h = rw same h

  pub both-pushed : (v₂ : Store) → v₂ ≡ in_order v₁ m g → v₂ ≡ in_both v m g
  unfolding grown
  both-pushed v₂ f =
      f
      ∙ (λ t. with_heads (with_orders (with_contexts (e t) (e t).contexts) (set (e t).orders (m * max_definitions + same t) g)) (set (e t).heads (order_slot m) (same t + 1)))
