-- EXTENDS: codes are origins, so joining lists of codes joins contexts.
use borrow.Author.Tests.{eq-eqb, ltb-false, ltb-true, ne_eqb}
use mathlib.Core.Bool.{Bool, ◌||◌, cond, false, true}
use mathlib.Core.List.{List, [], ◌++◌, ◌∷◌, append-nil, map}
use mathlib.Core.Option.{Option, some}
use mathlib.Core.Path.{◌∙◌, ◌≡◌, ap, ap₂, refl, subst, subst⁻¹, sym}
use lib.Dec.{eqb, ltb}
use lib.ListN.{get_or-append, get_or, get_elem?, length, length-set, set}
use lib.Seq.{get_or-set_other, get_or-set_same}
use native.Mathlib.Decide.{ℕ_discrete}
use native.Mathlib.Nat.{add-zero}
use native.Mathlib.Omega.{arith}
use Prim.Native.Nat.{◌*◌, ◌+◌, ◌-◌, ◌<◌, ◌≤◌, suc, zero, ℕ}
use Rattle.context.proofs.Adds.{hold-as}
use Rattle.context.proofs.Change.{made, made-same}
use Rattle.context.proofs.Growing.{current-shown, ended-no, hold-tick, shown-within, state, up_to}
use Rattle.context.proofs.Lookups.{module-law, name-at}
use Rattle.context.proofs.Marks.{part-below}
use Rattle.context.proofs.Parts.{part_length}
use Rattle.context.specs.Holds.{Holds, Known, Sized, module_no}
use Rattle.context.specs.Joining.{Below, Extendable, Extended, Marked, Small, module_joined}
use Rattle.context.specs.Lookup.{code_named, repeated_in}
use Rattle.context.specs.Parts.{part, place_of}
use Rattle.context.specs.Entries.{after_field, codes_of, entry_at, module_at, order_of, variable_kind}
use Rattle.store.specs.Updates.{with_contexts, with_heads, with_orders}
use Rattle.store.specs.Store.{context_slot, count_at, first_at, kind_at, order_slot}
use Rattle.store.specs.declared.Store.{Store}
use Rattle.store.specs.declared.Facts.{Facts}
use Rattle.limits.specs.Limits.{max_definitions, max_modules}
use Rattle.limits.specs.Sizes.{context_length, max_fields}
use Rattle.rules.specs.Add.{add, extended_definitions, extended_module}
use Rattle.rules.specs.Field.{extends}
use Rattle.rules.specs.Instance.{source}
use Rattle.rules.specs.Judge.{extended_context}
use Rattle.rules.specs.State.{Entry, Module, Origin, State, declares, defines, definition_origin, field_origin, inside, instances, no_module, one_origin, origin_of, same_name, same_origin}
use Rattle.theory.proofs.Lists.{map-all, union-all}
use Rattle.theory.specs.Lists.{All, any, is_some, numbers_from, or_else, repeats, union}
use Rattle.theory.specs.Term.{constant, variable}
use Rattle.context.specs.declared.Counts.{Counts}

abbrev origin_at : ℕ → Origin
origin_at o = cond (ltb o max_definitions) (definition_origin o) (field_origin (o - max_definitions))

module _ (names : List ℕ) (facts : List Facts) where
  abbrev e : ℕ → Entry
  e = entry_at names facts

  origin-at : (o : ℕ) → origin_of (e o) ≡ origin_at o
  unfolding entry_at
  origin-at o = go (ltb o max_definitions) (ltb (kind_at facts o) variable_kind) (eqb (kind_at facts o) variable_kind)
    where
      go : (a b c : Bool)
          → origin_of (cond a (defines (get_or names o 0) o) (cond b (declares (get_or names o 0) (constant (kind_at facts o)) (o - max_definitions))
          (cond c (declares (get_or names o 0) variable (o - max_definitions)) (instances (get_or names o 0) (o - max_definitions) (numbers_from (first_at facts o) (count_at facts o))))))
          ≡ cond a (definition_origin o) (field_origin (o - max_definitions))
      go true b c = refl
      go false true c = refl
      go false false true = refl
      go false false false = refl

  shifted : (a b : ℕ) → max_definitions ≤ a → max_definitions ≤ b → eqb (a - max_definitions) (b - max_definitions) ≡ eqb a b
  shifted a b h k = go (ℕ_discrete a b)
    where
      go : Dec (a ≡ b) → eqb (a - max_definitions) (b - max_definitions) ≡ eqb a b
      go (yes q) = eq-eqb (a - max_definitions) (b - max_definitions) (omega arith) ∙ sym (eq-eqb a b q)
      go (no q) = ne_eqb (a - max_definitions) (b - max_definitions) (λ (z : a - max_definitions ≡ b - max_definitions). q (omega arith)) ∙ sym (ne_eqb a b q)

  -- codes are origins
  pub same-origin : (a b : ℕ) → same_origin (e a) (e b) ≡ eqb a b
  same-origin a b = ap₂ one_origin (origin-at a) (origin-at b) ∙ go (ltb a max_definitions) refl (ltb b max_definitions) refl
    where
      go : (x : Bool) → ltb a max_definitions ≡ x → (y : Bool) → ltb b max_definitions ≡ y → one_origin (cond x (definition_origin a) (field_origin (a - max_definitions))) (cond y (definition_origin b) (field_origin (b - max_definitions))) ≡ eqb a b
      go true p true q = refl
      go true p false q =
          let h : a < max_definitions = ltb-true a max_definitions p in
          let k : max_definitions ≤ b = ltb-false b max_definitions q in
          sym (ne_eqb a b (λ (z : a ≡ b). omega arith))
      go false p true q =
          let h : max_definitions ≤ a = ltb-false a max_definitions p in
          let k : b < max_definitions = ltb-true b max_definitions q in
          sym (ne_eqb a b (λ (z : a ≡ b). omega arith))
      go false p false q = shifted a b (ltb-false a max_definitions p) (ltb-false b max_definitions q)

  any-map : (y : ℕ) (xs : List ℕ) → any (same_origin (e y)) (map e xs) ≡ any (eqb y) xs
  any-map y [] = refl
  any-map y (x ∷ xs) = ap₂ ◌||◌ (same-origin y x) (any-map y xs)

  map-append : (xs ys : List ℕ) → map e (xs ++ ys) ≡ map e xs ++ map e ys
  map-append [] ys = refl
  map-append (x ∷ xs) ys = ap (◌∷◌ (e x)) (map-append xs ys)

  map-cond : (b : Bool) (xs ys : List ℕ) → cond b (map e xs) (map e ys) ≡ map e (cond b xs ys)
  map-cond true xs ys = refl
  map-cond false xs ys = refl

  -- joined contexts are joined codes
  pub map-union : (xs ys : List ℕ) → union same_origin (map e xs) (map e ys) ≡ map e (union eqb xs ys)
  map-union xs [] = refl
  map-union xs (y ∷ ys) =
      ap (λ (l : List Entry). union same_origin l (map e ys))
      (ap₂ (λ (b : Bool) (l : List Entry). cond b (map e xs) l) (any-map y xs) (sym (map-append xs (y ∷ []))) ∙ map-cond (any (eqb y) xs) xs (xs ++ (y ∷ [])))
      ∙ map-union (cond (any (eqb y) xs) xs (xs ++ (y ∷ []))) ys

  some-cond : (b : Bool) (o : ℕ) (r : Option ℕ) → is_some (cond b (some o) r) ≡ b || is_some r
  some-cond true o r = refl
  some-cond false o r = refl

  any_name : (o : ℕ) (cs : List ℕ) → any (same_name (e o)) (map e cs) ≡ is_some (code_named names (get_or names o 0) cs)
  unfolding code_named
  any_name o [] = refl
  any_name o (c ∷ cs) =
      ap₂ ◌||◌ (ap₂ eqb (name-at names facts o) (name-at names facts c)) (any_name o cs) ∙ sym (some-cond (eqb (get_or names o 0) (get_or names c 0)) c _)

  -- 8 at EXTENDS
  pub repeats-law : (cs : List ℕ) → repeats same_name (map e cs) ≡ repeated_in names cs
  unfolding repeated_in
  repeats-law [] = refl
  repeats-law (o ∷ cs) = ap₂ ◌||◌ (any_name o cs) (repeats-law cs)

-- the current module with the context and the definitions of another joined to its own
abbrev pub context_joined : Module → Module → Module
context_joined M N = made M.name (union same_origin M.context N.context) M.definitions

abbrev pub order_joined : Module → Module → Module
order_joined M N = made M.name M.context (union eqb M.definitions N.definitions)

module _ (v : Store) (c : Counts) (s : State) (holds : Holds v c s) (q r : ℕ) (earlier : q < c.modules) where
  abbrev k : ℕ
  k = c.modules

  fits : Sized v c
  fits = holds.sized

  open-one : module_at v k ≡ s.current
  open-one = current-shown v c s holds

  earlier-one : module_at v q ≡ module_no s q
  earlier-one = holds.shown q (omega arith)

  -- the codes of module q were joined to those of the module open
  module _ (contexts : List ℕ) (same : Below (k * context_length) v.contexts contexts) (size : length contexts ≡ length v.contexts)
      (joins : part contexts (k * context_length) r ≡ union eqb (codes_of v k) (codes_of v q)) (room : r ≤ max_definitions + c.fields) where
    abbrev pub with_context : Store
    with_context = with_heads (with_contexts v contexts) (set v.heads (context_slot k) r)

    slot_kept : (i : ℕ) → (i ≡ context_slot k → ⊥) → get_or (set v.heads (context_slot k) r) i 0 ≡ get_or v.heads i 0
    slot_kept i h = get_or-set_other v.heads (context_slot k) i r 0 h

    slot-now : get_or (set v.heads (context_slot k) r) (context_slot k) 0 ≡ r
    slot-now = get_or-set_same v.heads (context_slot k) r 0 (omega (arith, fits.heads, fits.modules))

    codes-other : (m : ℕ) → m < k → codes_of with_context m ≡ codes_of v m
    codes-other m h =
        let l = fits.context_room m (omega arith) in
        ap (part contexts (m * context_length)) (slot_kept (context_slot m) (λ (z : context_slot m ≡ context_slot k). omega arith))
        ∙ part-below (k * context_length) v.contexts contexts same (m * context_length) (get_or v.heads (context_slot m) 0) (omega (arith, fits.definitions, fits.fields))

    codes_same : codes_of with_context k ≡ union eqb (codes_of v k) (codes_of v q)
    codes_same = ap (part contexts (k * context_length)) slot-now ∙ joins

    order-kept : (m : ℕ) → m ≤ max_modules → order_of v.orders (set v.heads (context_slot k) r) m ≡ order_of v.orders v.heads m
    order-kept m h = ap (part v.orders (m * max_definitions)) (slot_kept (order_slot m) (λ (z : order_slot m ≡ context_slot k). omega (arith, fits.modules)))

    pub hold-context : Holds with_context c
        (state s.fields s.bytes s.declarations s.phase s.ended (context_joined s.current (module_no s q)) s.definitions)
    hold-context = record {
      fields = holds.fields;
      declarations = holds.declarations;
      modules = holds.modules;
      definitions = holds.definitions;
      shown = shown-within v c s holds with_context (context_joined s.current (module_no s q))
          (λ m h. made-same (slot_kept m (λ (z : m ≡ context_slot k). omega (arith, fits.modules))) (ap (map (entry_at v.names v.facts)) (codes-other m h)) (order-kept m (omega (arith, fits.modules))))
          (made-same (slot_kept k (λ (z : k ≡ context_slot k). omega arith) ∙ ap (λ (M : Module). M.name) open-one)
          (ap (map (entry_at v.names v.facts)) codes_same ∙ sym (map-union v.names v.facts (codes_of v k) (codes_of v q))
          ∙ ap₂ (union same_origin) (ap (λ (M : Module). M.context) open-one) (ap (λ (M : Module). M.context) earlier-one))
          (order-kept k fits.modules ∙ ap (λ (M : Module). M.definitions) open-one));
      described = holds.described;
      linked = holds.linked;
      known = up_to (λ m. All (Known c.fields c.definitions) (codes_of with_context m)) k
          (λ m h. subst (All (Known c.fields c.definitions)) (sym (codes-other m h)) (holds.known m (omega arith)))
          (subst (All (Known c.fields c.definitions)) (sym codes_same)
          (union-all (Known c.fields c.definitions) eqb (codes_of v k) (codes_of v q) (holds.known k (omega arith)) (holds.known q (omega arith))));
      sized = record {
        names = fits.names;
        facts = fits.facts;
        contexts = size ∙ fits.contexts;
        orders = fits.orders;
        heads = length-set v.heads (context_slot k) r ∙ fits.heads;
        declared = fits.declared;
        modules = fits.modules;
        definitions = fits.definitions;
        fields = fits.fields;
        context_room = up_to (λ m. get_or (set v.heads (context_slot k) r) (context_slot m) 0 ≤ max_definitions + c.fields + c.definitions) k
            (λ m h. let l = fits.context_room m (omega arith) in rw (slot_kept (context_slot m) (λ (z : context_slot m ≡ context_slot k). omega arith)) l)
            (rw slot-now (omega arith));
        order_room = λ m h. let l = fits.order_room m h in rw (slot_kept (order_slot m) (λ (z : order_slot m ≡ context_slot k). omega (arith, fits.modules))) l;
      };
    }

  -- the definitions of module q were joined to those of the module open
  module _ (orders : List ℕ) (same : Below (k * max_definitions) v.orders orders) (size : length orders ≡ length v.orders)
      (joins : part orders (k * max_definitions) r ≡ union eqb (order_of v.orders v.heads k) (order_of v.orders v.heads q)) (room : r ≤ c.definitions) where
    abbrev pub with_order : Store
    with_order = with_heads (with_orders v orders) (set v.heads (order_slot k) r)

    place_other : (i : ℕ) → (i ≡ order_slot k → ⊥) → get_or (set v.heads (order_slot k) r) i 0 ≡ get_or v.heads i 0
    place_other i h = get_or-set_other v.heads (order_slot k) i r 0 h

    place_same : get_or (set v.heads (order_slot k) r) (order_slot k) 0 ≡ r
    place_same = get_or-set_same v.heads (order_slot k) r 0 (omega (arith, fits.heads, fits.modules))

    codes-kept : (m : ℕ) → m ≤ max_modules → codes_of with_order m ≡ codes_of v m
    codes-kept m h = ap (part v.contexts (m * context_length)) (place_other (context_slot m) (λ (z : context_slot m ≡ order_slot k). omega arith))

    numbers-other : (m : ℕ) → m < k → order_of orders (set v.heads (order_slot k) r) m ≡ order_of v.orders v.heads m
    numbers-other m h =
        let l = fits.order_room m (omega arith) in
        ap (part orders (m * max_definitions)) (place_other (order_slot m) (λ (z : order_slot m ≡ order_slot k). omega arith))
        ∙ part-below (k * max_definitions) v.orders orders same (m * max_definitions) (get_or v.heads (order_slot m) 0) (omega (arith, fits.definitions))

    pub hold-order : Holds with_order c
        (state s.fields s.bytes s.declarations s.phase s.ended (order_joined s.current (module_no s q)) s.definitions)
    hold-order = record {
      fields = holds.fields;
      declarations = holds.declarations;
      modules = holds.modules;
      definitions = holds.definitions;
      shown = shown-within v c s holds with_order (order_joined s.current (module_no s q))
          (λ m h. made-same (place_other m (λ (z : m ≡ order_slot k). omega (arith, fits.modules))) (ap (map (entry_at v.names v.facts)) (codes-kept m (omega (arith, fits.modules)))) (numbers-other m h))
          (made-same (place_other k (λ (z : k ≡ order_slot k). omega arith) ∙ ap (λ (M : Module). M.name) open-one)
          (ap (map (entry_at v.names v.facts)) (codes-kept k fits.modules) ∙ ap (λ (M : Module). M.context) open-one)
          (ap (part orders (k * max_definitions)) place_same ∙ joins ∙ ap₂ (union eqb) (ap (λ (M : Module). M.definitions) open-one) (ap (λ (M : Module). M.definitions) earlier-one)));
      described = holds.described;
      linked = holds.linked;
      known = λ m h. subst (All (Known c.fields c.definitions)) (sym (codes-kept m (omega (arith, fits.modules)))) (holds.known m h);
      sized = record {
        names = fits.names;
        facts = fits.facts;
        contexts = fits.contexts;
        orders = size ∙ fits.orders;
        heads = length-set v.heads (order_slot k) r ∙ fits.heads;
        declared = fits.declared;
        modules = fits.modules;
        definitions = fits.definitions;
        fields = fits.fields;
        context_room = λ m h. let l = fits.context_room m h in rw (place_other (context_slot m) (λ (z : context_slot m ≡ order_slot k). omega (arith, fits.modules))) l;
        order_room = up_to (λ m. get_or (set v.heads (order_slot k) r) (order_slot m) 0 ≤ c.definitions) k
            (λ m h. let l = fits.order_room m (omega arith) in rw (place_other (order_slot m) (λ (z : order_slot m ≡ order_slot k). omega arith)) l)
            (rw place_same (omega arith));
      };
    }

-- a module that was found is the source
pub source-law : (v : Store) (c : Counts) (s : State) (holds : Holds v c s) (n q : ℕ) → q ≡ place_of n (part v.heads 0 c.modules) → q < c.modules → source s n ≡ module_no s q
source-law v c s holds n q e h =
    let l : q < length s.ended = omega (arith, holds.modules) in
    ap (or_else no_module) (module-law v c s holds n ∙ ap (get_elem? s.ended) (sym e)) ∙ there s.ended q l
    ∙ sym (get_or-append s.ended (s.current ∷ []) no_module q l)
  where
    there : (ms : List Module) (i : ℕ) → i < length ms → or_else no_module (get_elem? ms i) ≡ get_or ms i no_module
    there [] i k = absurd (omega arith)
    there (M ∷ ms) zero k = refl
    there (M ∷ ms) (suc i) k = there ms i (omega arith)

-- EXTENDS, a module at a time

-- what is left to extend, from what was extended
abbrev pub extended_from : State → List ℕ → Module → Module
extended_from s ms M = made M.name (extended_context s ms M.context) (extended_definitions s ms M.definitions)

pub extended-all : (s : State) (ms : List ℕ) → extended_from s ms s.current ≡ extended_module s ms
extended-all s ms = refl

pub extended-next : (s : State) (m : ℕ) (ms : List ℕ) (M : Module) → extended_from s (m ∷ ms) M ≡ extended_from s ms (module_joined M (source s m))
extended-next s m ms M = refl

pub extended_none : (s : State) (M : Module) → extended_from s [] M ≡ M
extended_none s M = refl

-- the state with another module open
abbrev pub with_open : State → Module → State
with_open s M = state s.fields s.bytes s.declarations s.phase s.ended M s.definitions

module _ (v v' : Store) (c : Counts) (s : State) (holds : Holds v c s) (q : ℕ) (earlier : q < c.modules) (marks tally : List ℕ)
    (x : Extended v v' marks tally c.modules q) (marks_size : length marks ≡ max_definitions + c.fields) (tally_size : length tally ≡ c.definitions) where
  abbrev between : Store
  between = with_heads (with_contexts v v'.contexts) (set v.heads (context_slot c.modules) x.a)

  joined-context : Holds between c (with_open s (context_joined s.current (module_no s q)))
  joined-context =
      hold-context v c s holds q x.a earlier v'.contexts x.context.below x.context.size x.context.list
      (omega (arith, x.context.marked.full, part_length v'.contexts (c.modules * context_length) x.a))

  kept : (i : ℕ) → (i ≡ context_slot c.modules → ⊥) → get_or (set v.heads (context_slot c.modules) x.a) i 0 ≡ get_or v.heads i 0
  kept i h = get_or-set_other v.heads (context_slot c.modules) i x.a 0 h

  abbrev after : Store
  after = with_heads (with_orders (with_contexts v v'.contexts) v'.orders) (set (set v.heads (context_slot c.modules) x.a) (order_slot c.modules) x.b)

  joined-order : Holds after c (with_open s (order_joined (context_joined s.current (module_no s q)) (get_or (s.ended ++ (context_joined s.current (module_no s q) ∷ [])) q no_module)))
  joined-order =
      hold-order between c (with_open s (context_joined s.current (module_no s q))) joined-context q x.b earlier
      v'.orders x.order.below x.order.size
      (x.order.list
      ∙ sym (ap₂ (λ (i j : ℕ). union eqb (part v.orders (c.modules * max_definitions) i) (part v.orders (q * max_definitions) j))
      (kept (order_slot c.modules) (λ (z : order_slot c.modules ≡ context_slot c.modules). omega arith))
      (kept (order_slot q) (λ (z : order_slot q ≡ context_slot c.modules). omega (arith, holds.sized.modules)))))
      (omega (arith, x.order.marked.full, part_length v'.orders (c.modules * max_definitions) x.b))

  pub hold-extend : Holds v' c (with_open s (module_joined s.current (module_no s q)))
  hold-extend =
      subst (λ (u : Store). Holds u c (with_open s (module_joined s.current (module_no s q)))) (sym x.frame)
      (subst (λ (N : Module). Holds after c (with_open s (order_joined (context_joined s.current (module_no s q)) N)))
      (ended-no v c s holds (context_joined s.current (module_no s q)) q earlier) joined-order)

-- joining is ready, where marks and tally say what is in the lists so far
pub extendable : (v : Store) (c : Counts) (s : State) → Holds v c s → (q : ℕ) → q < c.modules → (marks tally : List ℕ) → length marks ≡ max_definitions + c.fields
    → length tally ≡ c.definitions → Marked marks (codes_of v c.modules) → Marked tally (order_of v.orders v.heads c.modules)
    → All (λ g. g < c.definitions) (module_no s q).definitions → Extendable v marks tally c.modules q
extendable v c s holds q earlier marks tally a b marked tallied few =
    let room = holds.sized.context_room q (omega arith) in
    let list-room = holds.sized.order_room q (omega arith) in
    record {
      context = record {
        marked = marked;
        small =
            map-all (Known c.fields c.definitions) (Small (length marks)) (λ (o : ℕ) (k : Known c.fields c.definitions o). omega (arith, k.below))
            (codes_of v q) (holds.known q (omega arith));
        size = holds.sized.contexts;
        marks_size = omega (arith, holds.sized.fields);
        room = omega (arith, holds.sized.fields, holds.sized.definitions);
        earlier = earlier;
        modules = holds.sized.modules;
      };
      order = record {
        marked = tallied;
        small = subst⁻¹ (All (Small (length tally))) (ap (λ (M : Module). M.definitions) (holds.shown q (omega arith))) (rw b few);
        size = holds.sized.orders;
        marks_size = omega (arith, holds.sized.definitions);
        room = omega (arith, holds.sized.definitions);
        earlier = earlier;
        modules = holds.sized.modules;
      };
    }

-- when every module named is joined, EXTENDS is added
pub adds-extends : (v : Store) (c : Counts) (s : State) (m : ℕ) (ms : List ℕ) → Holds v c (with_open s (extended_module s (m ∷ ms))) → c.fields < max_fields
    → Holds v (after_field c) (add s (extends m ms))
adds-extends v c s m ms holds room =
    hold-as v (after_field c) _ (add s (extends m ms)) (hold-tick v c (with_open s (extended_module s (m ∷ ms))) holds 0 inside room)
    refl (add-zero s.declarations) (append-nil s.ended) refl (append-nil s.definitions)
