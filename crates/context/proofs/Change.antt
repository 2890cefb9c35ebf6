-- What an addition to the store changes of what it shows, piece by piece.
use mathlib.Core.List.{List, [], ◌++◌, ◌∷◌, append-nil, map}
use mathlib.Core.Path.{◌∙◌, ◌≡◌, ap, refl, sym}
use lib.ListN.{get_or, length, length-set, set}
use lib.Seq.{get_or-set_other, get_or-set_same}
use native.Mathlib.Omega.{arith}
use Prim.Native.Nat.{◌*◌, ◌+◌, ◌<◌, ◌≤◌, ℕ}
use Rattle.context.proofs.Parts.{map_each, map_snoc, part-push, part-set}
use Rattle.context.specs.Holds.{Linked}
use Rattle.context.specs.Parts.{part}
use Rattle.context.specs.Entries.{begun, codes_of, described_as, entry_at, module_at, order_of, path_of}
use Rattle.store.specs.Store.{context_slot, link_at, no_facts, order_slot, source_at}
use Rattle.store.specs.declared.Store.{Store}
use Rattle.store.specs.Updates.{headed, in_context, in_order, with_row}
use Rattle.limits.specs.Limits.{max_definitions, max_modules}
use Rattle.limits.specs.Sizes.{context_length, heads_length}
use Rattle.rules.specs.Add.{with_more}
use Rattle.rules.specs.State.{Context, Module}
use Rattle.theory.proofs.Lists.{map-all}
use Rattle.theory.specs.Expand.{Definition}
use Rattle.theory.specs.Lists.{All}
use Rattle.store.specs.declared.Facts.{Facts}

-- what a code is
module _ (facts : List Facts) (o : ℕ) (r : Facts) where
  pub fact-other : (p : ℕ) → (p ≡ o → ⊥) → get_or (set facts o r) p no_facts ≡ get_or facts p no_facts
  fact-other p h = get_or-set_other facts o p r no_facts h

  pub fact-same : o < length facts → get_or (set facts o r) o no_facts ≡ r
  fact-same h = get_or-set_same facts o r no_facts h

abbrev pub made : ℕ → Context → List ℕ → Module
made n Γ gs = record { name = n; context = Γ; definitions = gs }

pub made-same : {n n' : ℕ} {Γ Γ' : Context} {gs gs' : List ℕ} → n ≡ n' → Γ ≡ Γ' → gs ≡ gs' → made n Γ gs ≡ made n' Γ' gs'
made-same p q r = λ i. made (p i) (q i) (r i)

-- a code that nothing mentions is given a meaning
module _ (v : Store) (o name : ℕ) (r : Facts) where
  apart : (p : ℕ) → (p ≡ o → ⊥) → get_or (set v.facts o r) p no_facts ≡ get_or v.facts p no_facts
  apart p h = fact-other v.facts o r p h

  pub entry_other : (p : ℕ) → (p ≡ o → ⊥) → entry_at (set v.names o name) (set v.facts o r) p ≡ entry_at v.names v.facts p
  unfolding entry_at
  entry_other p h = rw (get_or-set_other v.names o p name 0 h, ap (λ (f : Facts). f.kind) (apart p h), ap (λ (f : Facts). f.first) (apart p h), ap (λ (f : Facts). f.count) (apart p h))

  pub enter-module : (m : ℕ) → All (λ p. p ≡ o → ⊥) (codes_of v m) → module_at (with_row v o name r) m ≡ module_at v m
  enter-module m h = made-same refl (map_each _ _ (codes_of v m) (all-to (codes_of v m) h)) refl
    where
      all-to : (l : List ℕ) → All (λ p. p ≡ o → ⊥) l → All (λ p. entry_at (set v.names o name) (set v.facts o r) p ≡ entry_at v.names v.facts p) l
      all-to l h = map-all _ _ (λ p. entry_other p) l h

  pub enter-definition : (g : ℕ) (d : Definition) → (g ≡ o → ⊥) → described_as (with_row v o name r) g d ≡ described_as v g d
  enter-definition g d h =
      rw (get_or-set_other v.names o g name 0 h, ap (λ (f : Facts). f.kind) (apart g h), ap (λ (f : Facts). f.first) (apart g h), ap (λ (f : Facts). f.count) (apart g h), ap (λ (f : Facts). f.via) (apart g h))

  pub enter-linked : (g : ℕ) (d : Definition) → (g ≡ o → ⊥) → Linked g d (source_at v.facts g) (link_at v.facts g)
      → Linked g d (source_at (set v.facts o r) g) (link_at (set v.facts o r) g)
  enter-linked g d h l = rw (ap (λ (f : Facts). f.source) (apart g h), ap (λ (f : Facts). f.link) (apart g h)) l

  pub enter-new : (d : Definition) → o < length v.names → o < length v.facts
      → described_as (with_row v o name r) o d ≡ record { path = path_of r.via; name = name; params = r.kind; body_start = r.first; body_length = r.count; meaning = d }
  enter-new d h l =
      rw (
        get_or-set_same v.names o name 0 h,
        ap (λ (f : Facts). f.kind) (fact-same v.facts o r l),
        ap (λ (f : Facts). f.first) (fact-same v.facts o r l),
        ap (λ (f : Facts). f.count) (fact-same v.facts o r l),
        ap (λ (f : Facts). f.via) (fact-same v.facts o r l),
      )

  pub enter-new-linked : (d : Definition) → o < length v.facts → Linked o d r.source r.link
      → Linked o d (source_at (set v.facts o r) o) (link_at (set v.facts o r) o)
  enter-new-linked d l k = rw (ap (λ (f : Facts). f.source) (fact-same v.facts o r l), ap (λ (f : Facts). f.link) (fact-same v.facts o r l)) k

-- a code comes after the context of module k
module _ (v : Store) (k o : ℕ) (few : k ≤ max_modules) where
  pub push-codes-other : (m : ℕ) → m < k → get_or v.heads (context_slot m) 0 ≤ context_length → codes_of (in_context v k o) m ≡ codes_of v m
  push-codes-other m h l =
      ap (part (set v.contexts (k * context_length + get_or v.heads (context_slot k) 0) o) (m * context_length))
      (get_or-set_other v.heads (context_slot k) (context_slot m) (get_or v.heads (context_slot k) 0 + 1) 0 (λ (e : context_slot m ≡ context_slot k). omega arith))
      ∙ part-set v.contexts (k * context_length + get_or v.heads (context_slot k) 0) o (m * context_length) (get_or v.heads (context_slot m) 0)
      (λ (j : ℕ) (q : j < get_or v.heads (context_slot m) 0) (e : m * context_length + j ≡ k * context_length + get_or v.heads (context_slot k) 0). omega arith)

  pub push-codes-same : context_slot k < length v.heads → k * context_length + get_or v.heads (context_slot k) 0 < length v.contexts → codes_of (in_context v k o) k ≡ codes_of v k ++ (o ∷ [])
  push-codes-same h l =
      ap (part (set v.contexts (k * context_length + get_or v.heads (context_slot k) 0) o) (k * context_length))
      (get_or-set_same v.heads (context_slot k) (get_or v.heads (context_slot k) 0 + 1) 0 h)
      ∙ part-push v.contexts (k * context_length) (get_or v.heads (context_slot k) 0) o l

  push-name : (m : ℕ) → m ≤ max_modules → get_or (in_context v k o).heads m 0 ≡ get_or v.heads m 0
  push-name m h = get_or-set_other v.heads (context_slot k) m (get_or v.heads (context_slot k) 0 + 1) 0 (λ (e : m ≡ context_slot k). omega arith)

  push-order : (m : ℕ) → m ≤ max_modules → order_of v.orders (in_context v k o).heads m ≡ order_of v.orders v.heads m
  push-order m h =
      ap (part v.orders (m * max_definitions)) (get_or-set_other v.heads (context_slot k) (order_slot m) (get_or v.heads (context_slot k) 0 + 1) 0 (λ (e : order_slot m ≡ context_slot k). omega arith))

  pub push-other : (m : ℕ) → m < k → get_or v.heads (context_slot m) 0 ≤ context_length → module_at (in_context v k o) m ≡ module_at v m
  push-other m h l = made-same (push-name m (omega arith)) (ap (map (entry_at v.names v.facts)) (push-codes-other m h l)) (push-order m (omega arith))

  pub push-same : context_slot k < length v.heads → k * context_length + get_or v.heads (context_slot k) 0 < length v.contexts
      → module_at (in_context v k o) k ≡ with_more (module_at v k) (entry_at v.names v.facts o ∷ []) []
  push-same h l =
      made-same (push-name k few) (ap (map (entry_at v.names v.facts)) (push-codes-same h l) ∙ map_snoc (entry_at v.names v.facts) (codes_of v k) o)
      (push-order k few ∙ sym (append-nil (order_of v.orders v.heads k)))

-- a number comes after the definitions of module k
module _ (v : Store) (k g : ℕ) (few : k ≤ max_modules) where
  order-name : (m : ℕ) → m ≤ max_modules → get_or (in_order v k g).heads m 0 ≡ get_or v.heads m 0
  order-name m h = get_or-set_other v.heads (order_slot k) m (get_or v.heads (order_slot k) 0 + 1) 0 (λ (e : m ≡ order_slot k). omega arith)

  pub order-codes : (m : ℕ) → m ≤ max_modules → codes_of (in_order v k g) m ≡ codes_of v m
  order-codes m h =
      ap (part v.contexts (m * context_length)) (get_or-set_other v.heads (order_slot k) (context_slot m) (get_or v.heads (order_slot k) 0 + 1) 0 (λ (e : context_slot m ≡ order_slot k). omega arith))

  pub order_other : (m : ℕ) → m < k → get_or v.heads (order_slot m) 0 ≤ max_definitions → module_at (in_order v k g) m ≡ module_at v m
  order_other m h l =
      made-same (order-name m (omega arith)) (ap (map (entry_at v.names v.facts)) (order-codes m (omega arith)))
      (ap (part (set v.orders (k * max_definitions + get_or v.heads (order_slot k) 0) g) (m * max_definitions))
      (get_or-set_other v.heads (order_slot k) (order_slot m) (get_or v.heads (order_slot k) 0 + 1) 0 (λ (e : order_slot m ≡ order_slot k). omega arith))
      ∙ part-set v.orders (k * max_definitions + get_or v.heads (order_slot k) 0) g (m * max_definitions) (get_or v.heads (order_slot m) 0)
      (λ (j : ℕ) (q : j < get_or v.heads (order_slot m) 0) (e : m * max_definitions + j ≡ k * max_definitions + get_or v.heads (order_slot k) 0). omega arith))

  pub order_same : order_slot k < length v.heads → k * max_definitions + get_or v.heads (order_slot k) 0 < length v.orders
      → module_at (in_order v k g) k ≡ with_more (module_at v k) [] (g ∷ [])
  order_same h l =
      made-same (order-name k few) (ap (map (entry_at v.names v.facts)) (order-codes k few) ∙ sym (append-nil (module_at v k).context))
      (ap (part (set v.orders (k * max_definitions + get_or v.heads (order_slot k) 0) g) (k * max_definitions)) (get_or-set_same v.heads (order_slot k) (get_or v.heads (order_slot k) 0 + 1) 0 h)
      ∙ part-push v.orders (k * max_definitions) (get_or v.heads (order_slot k) 0) g l)

-- module k gets a head
module _ (heads : List ℕ) (k name : ℕ) where
  pub head-other : (i : ℕ) → (i ≡ k → ⊥) → (i ≡ context_slot k → ⊥) → (i ≡ order_slot k → ⊥) → get_or (headed heads k name) i 0 ≡ get_or heads i 0
  unfolding headed
  head-other i a b c =
      get_or-set_other (set (set heads k name) (context_slot k) 0) (order_slot k) i 0 0 c ∙ get_or-set_other (set heads k name) (context_slot k) i 0 0 b ∙ get_or-set_other heads k i name 0 a

  pub head-length : length (headed heads k name) ≡ length heads
  unfolding headed
  head-length = simp length-set

  module _ (few : k ≤ max_modules) (size : length heads ≡ heads_length) where
    pub head-name : get_or (headed heads k name) k 0 ≡ name
    unfolding headed
    head-name =
        get_or-set_other (set (set heads k name) (context_slot k) 0) (order_slot k) k 0 0 (λ (e : k ≡ order_slot k). omega arith)
        ∙ get_or-set_other (set heads k name) (context_slot k) k 0 0 (λ (e : k ≡ context_slot k). omega arith) ∙ get_or-set_same heads k name 0 (omega arith)

    pub head-context : get_or (headed heads k name) (context_slot k) 0 ≡ 0
    unfolding headed
    head-context =
        get_or-set_other (set (set heads k name) (context_slot k) 0) (order_slot k) (context_slot k) 0 0 (λ (e : context_slot k ≡ order_slot k). omega arith)
        ∙ get_or-set_same (set heads k name) (context_slot k) 0 0 (simp length-set (omega arith))

    pub head-order : get_or (headed heads k name) (order_slot k) 0 ≡ 0
    unfolding headed
    head-order = get_or-set_same (set (set heads k name) (context_slot k) 0) (order_slot k) 0 0 (simp length-set (omega arith))

module _ (v : Store) (k name : ℕ) (few : k ≤ max_modules) where
  pub begun-codes : (m : ℕ) → m < k → codes_of (begun v k name) m ≡ codes_of v m
  begun-codes m h =
      ap (part v.contexts (m * context_length)) (head-other v.heads k name (context_slot m) (λ (e : context_slot m ≡ k). omega arith) (λ (e : context_slot m ≡ context_slot k). omega arith) (λ (e : context_slot m ≡ order_slot k). omega arith))

  pub begun-other : (m : ℕ) → m < k → module_at (begun v k name) m ≡ module_at v m
  begun-other m h =
      made-same (head-other v.heads k name m (λ (e : m ≡ k). omega arith) (λ (e : m ≡ context_slot k). omega arith) (λ (e : m ≡ order_slot k). omega arith))
      (ap (map (entry_at v.names v.facts)) (begun-codes m h))
      (ap (part v.orders (m * max_definitions)) (head-other v.heads k name (order_slot m) (λ (e : order_slot m ≡ k). omega arith) (λ (e : order_slot m ≡ context_slot k). omega arith) (λ (e : order_slot m ≡ order_slot k). omega arith)))

  module _ (size : length v.heads ≡ heads_length) where
    pub begun-no-codes : codes_of (begun v k name) k ≡ []
    unfolding part
    begun-no-codes = ap (part v.contexts (k * context_length)) (head-context v.heads k name few size)

    pub begun-same : module_at (begun v k name) k ≡ record { name = name; context = []; definitions = [] }
    unfolding part
    begun-same =
        made-same (head-name v.heads k name few size) (ap (map (entry_at v.names v.facts)) begun-no-codes)
        (ap (part v.orders (k * max_definitions)) (head-order v.heads k name few size))
