-- One lemma for each way through the functions that join lists.
use borrow.Author.Tests.{ne_eqb}
use mathlib.Core.Bool.{Bool, cond, false, not, true}
use mathlib.Core.List.{List, [], ◌++◌, ◌∷◌}
use mathlib.Core.Path.{◌∙◌, ◌≡◌, ap, ap₂, refl, subst, sym}
use lib.Dec.{eqb}
use lib.ListN.{get_or, length, length-set, set}
use lib.Seq.{get_or-set_other}
use native.Mathlib.Omega.{arith}
use Prim.Native.Nat.{◌*◌, ◌+◌, ◌-◌, ◌<◌, ◌≤◌, ℕ}
use Rattle.limits.specs.Limits.{max_definitions}
use Rattle.limits.specs.Sizes.{context_length, contexts_length, orders_length}
use Rattle.theory.specs.Lists.{All, any, union}
use Rattle.store.specs.Store.{context_slot, order_slot}
use Rattle.store.specs.declared.Store.{Store}
use Rattle.store.specs.Updates.{with_contexts, with_heads, with_orders}
use Rattle.context.proofs.Marks.{below-refl, below_set, below-trans, marked-push, marked-room, part-below}
use Rattle.context.proofs.Parts.{part_end, part_length, part-push, part-turn}
use Rattle.context.specs.Entries.{codes_of, order_of}
use Rattle.context.specs.Joining.{Below, ContextJoined, ContextReady, Extendable, Extended, JoinedAt, Marked, OrderJoined, OrderReady, Small, joined}
use Rattle.context.specs.Parts.{part}

-- join

module _ (marks lists : List ℕ) (base count x : ℕ) (m : Marked marks (part lists base count)) (h : x < length marks) where
  pub join-room : get_or marks x 0 ≡ 0 → count < length marks
  join-room e = rw (part_length lists base count) at (marked-room marks (part lists base count) x m h e)

  pub join-place : (n : ℕ) → get_or marks x 0 ≡ 0 → base + length marks ≤ n → base + count < n
  join-place n e k = omega (arith, join-room e)

  pub join-count : (n : ℕ) → get_or marks x 0 ≡ 0 → length marks < n → count + 1 < n
  join-count n e k = omega (arith, join-room e)

  pub join-lists : get_or marks x 0 ≡ 0 → base + length marks ≤ length lists
      → part (set lists (base + count) x) base (count + 1) ≡ joined (part lists base count) x
  unfolding joined
  join-lists e k =
      let r : count < length marks = join-room e in
      let q : any (eqb x) (part lists base count) ≡ false = m.says x ∙ ap (λ (y : ℕ). not (eqb y 0)) e in
      part-push lists base count x (omega arith) ∙ sym (ap (λ (b : Bool). cond b (part lists base count) (part lists base count ++ (x ∷ []))) q)

  pub join-marks : get_or marks x 0 ≡ 0 → base + length marks ≤ length lists → Marked (set marks x 1) (part (set lists (base + count) x) base (count + 1))
  join-marks e k =
      let r : count < length marks = join-room e in
      subst (Marked (set marks x 1)) (sym (part-push lists base count x (omega arith))) (marked-push marks (part lists base count) x m h e)

  pub join-stays : (get_or marks x 0 ≡ 0 → ⊥) → part lists base count ≡ joined (part lists base count) x
  unfolding joined
  join-stays e =
      let q : any (eqb x) (part lists base count) ≡ true = m.says x ∙ ap not (ne_eqb (get_or marks x 0) 0 e) in
      sym (ap (λ (b : Bool). cond b (part lists base count) (part lists base count ++ (x ∷ []))) q)

-- the store with one list written, the rest as it was
pub contexts-frame : (v w : Store) (l : List ℕ) → w ≡ with_contexts v l → w ≡ with_contexts v w.contexts
contexts-frame v w l e = rw e refl

pub contexts-frames : (v w u : Store) → w ≡ with_contexts v w.contexts → u ≡ with_contexts w u.contexts → u ≡ with_contexts v u.contexts
contexts-frames v w u e f = f ∙ ap (λ (x : Store). with_contexts x u.contexts) e

pub orders-frame : (v w : Store) (l : List ℕ) → w ≡ with_orders v l → w ≡ with_orders v w.orders
orders-frame v w l e = rw e refl

pub orders-frames : (v w u : Store) → w ≡ with_orders v w.orders → u ≡ with_orders w u.orders → u ≡ with_orders v u.orders
orders-frames v w u e f = f ∙ ap (λ (x : Store). with_orders x u.orders) e

-- one more stands there now
joined-new : (marks lists after : List ℕ) (base count x n : ℕ) → after ≡ set lists (base + count) x → Marked marks (part lists base count) → x < length marks → get_or marks x 0 ≡ 0
    → base + length marks ≤ n → length lists ≡ n → JoinedAt base (count + 1) (joined (part lists base count) x) lists after (set marks x 1)
joined-new marks lists after base count x n e m h z k l =
    let room : base + length marks ≤ length lists = omega arith in
    rw e record {
      list = join-lists marks lists base count x m h z room;
      marked = join-marks marks lists base count x m h z room;
      below = below_set base lists count x;
      size = length-set lists (base + count) x;
    }

pub context-new : (v w : Store) (marks : List ℕ) (base count x : ℕ) → w ≡ with_contexts v (set v.contexts (base + count) x) → Marked marks (part v.contexts base count) → x < length marks
    → get_or marks x 0 ≡ 0 → base + length marks ≤ contexts_length → length v.contexts ≡ contexts_length
    → JoinedAt base (count + 1) (joined (part v.contexts base count) x) v.contexts w.contexts (set marks x 1)
context-new v w marks base count x e m h z k l = joined-new marks v.contexts w.contexts base count x contexts_length (ap (λ (u : Store). u.contexts) e) m h z k l

pub order-new : (v w : Store) (marks : List ℕ) (base count x : ℕ) → w ≡ with_orders v (set v.orders (base + count) x) → Marked marks (part v.orders base count) → x < length marks
    → get_or marks x 0 ≡ 0 → base + length marks ≤ orders_length → length v.orders ≡ orders_length
    → JoinedAt base (count + 1) (joined (part v.orders base count) x) v.orders w.orders (set marks x 1)
order-new v w marks base count x e m h z k l = joined-new marks v.orders w.orders base count x orders_length (ap (λ (u : Store). u.orders) e) m h z k l

-- it stood there
pub joined-old : (marks lists : List ℕ) (base count x : ℕ) → Marked marks (part lists base count) → x < length marks → (get_or marks x 0 ≡ 0 → ⊥)
    → JoinedAt base count (joined (part lists base count) x) lists lists marks
joined-old marks lists base count x m h z =
    record { list = join-stays marks lists base count x m h z; marked = m; below = below-refl base lists; size = refl }

-- unite

pub unite-small : (marks before lists : List ℕ) (i end : ℕ) → length marks ≡ length before → All (Small (length before)) (part lists i (end - i)) → i < end
    → get_or lists i 0 < length marks
unite-small marks before lists i end e h l = rw e (subst (All (Small (length before))) (part-turn lists i end l) h).0

-- one more is joined
module _ (lists now : List ℕ) (base count i end r : ℕ) (b : Below base lists now) (j : part now base r ≡ joined (part lists base count) (get_or lists i 0)) (l : i < end) (k : end ≤ base) where
  rest : part now (i + 1) (end - (i + 1)) ≡ part lists (i + 1) (end - (i + 1))
  rest = part-below base lists now b (i + 1) (end - (i + 1)) (omega arith)

  pub unite-turn : (w : List ℕ) → union eqb (part lists base count) (part lists i (end - i)) ≡ w → union eqb (part now base r) (part now (i + 1) (end - (i + 1))) ≡ w
  unfolding joined
  unite-turn w e = ap₂ (union eqb) j rest ∙ sym (ap (union eqb (part lists base count)) (part-turn lists i end l)) ∙ e

  pub unite-rest : (n : ℕ) → All (Small n) (part lists i (end - i)) → All (Small n) (part now (i + 1) (end - (i + 1)))
  unite-rest n h = subst (All (Small n)) (sym rest) (subst (All (Small n)) (part-turn lists i end l) h).1

pub unite-done : (lists : List ℕ) (base count i end : ℕ) (w : List ℕ) → union eqb (part lists base count) (part lists i (end - i)) ≡ w → end ≤ i → part lists base count ≡ w
unite-done lists base count i end w e h = sym (ap (union eqb (part lists base count)) (part_end lists i end h)) ∙ e

-- what is joined so far, and what is left
pub record Uniting (from end base count : ℕ) (before marks : List ℕ) (n i : ℕ) (lists marked : List ℕ) : Type 0 where
  pub size : length lists ≡ length before
  pub marks_size : length marked ≡ length marks
  pub says : Marked marked (part lists base n)
  pub below : Below base before lists
  pub small : All (Small (length marks)) (part lists i (end - i))
  pub same : union eqb (part lists base n) (part lists i (end - i)) ≡ union eqb (part before base count) (part before from (end - from))

pub uniting-start : (from end base count : ℕ) (lists marks : List ℕ) → Marked marks (part lists base count) → All (Small (length marks)) (part lists from (end - from))
    → Uniting from end base count lists marks count from lists marks
uniting-start from end base count lists marks m h =
    record { size = refl; marks_size = refl; says = m; below = below-refl base lists; small = h; same = refl }

module _ (from end base count : ℕ) (before marks : List ℕ) (n i : ℕ) (lists marked : List ℕ) (u : Uniting from end base count before marks n i lists marked) where
  pub uniting-small : (x : ℕ) → x ≡ get_or lists i 0 → i < end → x < length marked
  uniting-small x e l = rw e (unite-small marked marks lists i end u.marks_size u.small l)

  pub uniting-room : (b : ℕ) → base + length marks ≤ b → base + length marked ≤ b
  uniting-room b h = omega (arith, u.marks_size)

  pub uniting-size : (b : ℕ) → length before ≡ b → length lists ≡ b
  uniting-size b h = u.size ∙ h

  pub uniting-turn : (x r : ℕ) (lists' marked' : List ℕ) → x ≡ get_or lists i 0 → JoinedAt base r (joined (part lists base n) x) lists lists' marked' → length marked' ≡ length marked
      → i < end → end ≤ base → Uniting from end base count before marks r (i + 1) lists' marked'
  uniting-turn x r lists' marked' e j q l k =
      let joins : part lists' base r ≡ joined (part lists base n) (get_or lists i 0) = j.list ∙ ap (joined (part lists base n)) e in
      record {
        size = j.size ∙ u.size;
        marks_size = q ∙ u.marks_size;
        says = j.marked;
        below = below-trans base before lists lists' u.below j.below;
        small = unite-rest lists lists' base n i end r j.below joins l k (length marks) u.small;
        same = unite-turn lists lists' base n i end r j.below joins l k _ u.same;
      }

  pub uniting-done : end ≤ i → JoinedAt base n (union eqb (part before base count) (part before from (end - from))) before lists marked
  uniting-done h = record { list = unite-done lists base n i end _ u.same h; marked = u.says; below = u.below; size = u.size }

-- extend

marked-count : (base r : ℕ) (l before after marks : List ℕ) → JoinedAt base r l before after marks → r ≤ length marks
marked-count base r l before after marks j = omega (arith, j.marked.full, part_length after base r)

pub context-count : (v : Store) (k q base r : ℕ) (l before after marks marks₀ : List ℕ) → JoinedAt base r l before after marks → length marks ≡ length marks₀ → ContextReady v marks₀ k q
    → r ≤ context_length
context-count v k q base r l before after marks marks₀ j e x = omega (arith, marked-count base r l before after marks j, x.marks_size)

pub order-count : (v : Store) (k q base r : ℕ) (l before after tally tally₀ : List ℕ) → JoinedAt base r l before after tally → length tally ≡ length tally₀ → OrderReady v tally₀ k q
    → r ≤ max_definitions
order-count v k q base r l before after tally tally₀ j e x = omega (arith, marked-count base r l before after tally j, x.marks_size)

-- the counts are read from the heads
pub counted-marked : (marks lists heads : List ℕ) (base n slot : ℕ) → Marked marks (part lists base (get_or heads slot 0)) → n ≡ get_or heads slot 0 → Marked marks (part lists base n)
counted-marked marks lists heads base n slot m e = rw e m

pub counted-small : (lists heads : List ℕ) (b from n slot : ℕ) → All (Small b) (part lists from (get_or heads slot 0)) → n ≡ get_or heads slot 0
    → All (Small b) (part lists from (from + n - from))
counted-small lists heads b from n slot m e = let q : from + n - from ≡ n = omega arith in rw (q, e) m

counted-joined : (lists after heads marks : List ℕ) (base from n m r target source : ℕ) → JoinedAt base r (union eqb (part lists base n) (part lists from (from + m - from))) lists after marks
    → n ≡ get_or heads target 0 → m ≡ get_or heads source 0
    → JoinedAt base r (union eqb (part lists base (get_or heads target 0)) (part lists from (get_or heads source 0))) lists after marks
counted-joined lists after heads marks base from n m r target source j e f =
    let q : from + m - from ≡ m = omega arith in
    subst (λ (l : List ℕ). JoinedAt base r l lists after marks) (ap₂ (λ (a b : ℕ). union eqb (part lists base a) (part lists from b)) e (q ∙ f)) j

module _ (v w u : Store) (marks : List ℕ) (k q n m r : ℕ) where
  pub context-joined : w ≡ with_contexts v w.contexts
      → JoinedAt (k * context_length) r (union eqb (part v.contexts (k * context_length) n) (part v.contexts (q * context_length) (q * context_length + m - q * context_length))) v.contexts w.contexts marks
      → n ≡ get_or v.heads (context_slot k) 0 → m ≡ get_or v.heads (context_slot q) 0 → u ≡ with_heads w (set w.heads (context_slot k) r) → ContextJoined v u marks k q r
  context-joined e j a b f = record {
    frame = rw (f, e) refl;
    context = subst (λ (x : Store). JoinedAt (k * context_length) r (union eqb (codes_of v k) (codes_of v q)) v.contexts x.contexts marks) (sym f)
        (counted-joined v.contexts w.contexts v.heads marks (k * context_length) (q * context_length) n m r (context_slot k) (context_slot q) j a b);
  }

  pub order-joined : w ≡ with_orders v w.orders
      → JoinedAt (k * max_definitions) r (union eqb (part v.orders (k * max_definitions) n) (part v.orders (q * max_definitions) (q * max_definitions + m - q * max_definitions))) v.orders w.orders marks
      → n ≡ get_or v.heads (order_slot k) 0 → m ≡ get_or v.heads (order_slot q) 0 → u ≡ with_heads w (set w.heads (order_slot k) r) → OrderJoined v u marks k q r
  order-joined e j a b f = record {
    frame = rw (f, e) refl;
    order = subst (λ (x : Store). JoinedAt (k * max_definitions) r (union eqb (order_of v.orders v.heads k) (order_of v.orders v.heads q)) v.orders x.orders marks) (sym f)
        (counted-joined v.orders w.orders v.heads marks (k * max_definitions) (q * max_definitions) n m r (order_slot k) (order_slot q) j a b);
  }

-- first the context, then the definitions
module _ (v w : Store) (marks tally marks' : List ℕ) (k q a : ℕ) (x : Extendable v marks tally k q) (j : ContextJoined v w marks' k q a) where
  kept : (i : ℕ) → (i ≡ context_slot k → ⊥) → get_or w.heads i 0 ≡ get_or v.heads i 0
  kept i n = ap (λ (u : Store). get_or u.heads i 0) j.frame ∙ get_or-set_other v.heads (context_slot k) i a 0 n

  source-kept : get_or w.heads (order_slot q) 0 ≡ get_or v.heads (order_slot q) 0
  source-kept = kept (order_slot q) (λ (z : order_slot q ≡ context_slot k). omega (arith, x.order.modules))

  target-kept : get_or w.heads (order_slot k) 0 ≡ get_or v.heads (order_slot k) 0
  target-kept = kept (order_slot k) (λ (z : order_slot k ≡ context_slot k). omega arith)

  orders-kept : w.orders ≡ v.orders
  orders-kept = ap (λ (u : Store). u.orders) j.frame

  pub order-ready : OrderReady w tally k q
  order-ready = record {
    marked = rw (orders-kept, target-kept) x.order.marked;
    small = rw (orders-kept, source-kept) x.order.small;
    size = ap length orders-kept ∙ x.order.size;
    marks_size = x.order.marks_size;
    room = rw source-kept x.order.room;
    earlier = x.order.earlier;
    modules = x.order.modules;
  }

  pub both-joined : (u : Store) (tally' : List ℕ) (b : ℕ) → OrderJoined w u tally' k q b → Extended v u marks' tally' k q
  both-joined u tally' b o = record {
    a = a;
    b = b;
    frame = o.frame ∙ ap (λ (y : Store). with_heads (with_orders y u.orders) (set y.heads (order_slot k) b)) j.frame ∙ ap (λ (l : List ℕ). with_heads (with_orders (with_contexts v l) u.orders) (set (set v.heads (context_slot k) a) (order_slot k) b)) (sym contexts-kept);
    context = subst (λ (l : List ℕ). JoinedAt (k * context_length) a (union eqb (codes_of v k) (codes_of v q)) v.contexts l marks') (sym contexts-kept) j.context;
    order = rw (orders-kept, target-kept, source-kept) at o.order;
  }
    where
      contexts-kept : u.contexts ≡ w.contexts
      contexts-kept = ap (λ (y : Store). y.contexts) o.frame
