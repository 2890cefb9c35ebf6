-- What the pieces of an addition leave in the store shows what the rules add: a half-grown state each time.
use borrow.Author.Tests.{lt-ltb}
use mathlib.Core.List.{List, [], ◌++◌, ◌∷◌}
use mathlib.Core.Path.{◌∙◌, ◌≡◌, ap, ap₂, subst, sym}
use lib.ListN.{get_or-append, get_or, length, length-append, length-set, set}
use lib.Seq.{get_or_at, get_or-set_other, get_or-set_same}
use native.Mathlib.Decide.{dec_lt}
use native.Mathlib.Omega.{arith}
use Prim.Native.Nat.{◌*◌, ◌+◌, ◌<◌, ◌≤◌, suc, ℕ}
use Rattle.context.proofs.Change.{enter-definition, enter-linked, enter-module, enter-new, enter-new-linked, order-codes, order_other, order_same, push-codes-other, push-codes-same, push-other, push-same}
use Rattle.context.specs.Holds.{Holds, Known, Linked, Sized, module_no}
use Rattle.context.specs.Entries.{codes_of, counts, described_as, entry_at, field_code, module_at, path_of}
use Rattle.store.specs.Store.{context_slot, link_at, order_slot, source_at}
use Rattle.store.specs.declared.Store.{Store}
use Rattle.store.specs.Updates.{in_context, in_order, with_row}
use Rattle.limits.specs.Limits.{max_definitions}
use Rattle.limits.specs.Sizes.{context_length, contexts_length, max_fields, orders_length}
use Rattle.rules.specs.Add.{with_more}
use Rattle.rules.specs.State.{Added, Entry, Module, Phase, State, defines, definition_at, no_definition, no_module}
use Rattle.theory.proofs.Lists.{append-all, map-all}
use Rattle.theory.specs.Expand.{Definition}
use Rattle.theory.specs.Lists.{All}
use Rattle.context.specs.declared.Counts.{Counts}
use Rattle.store.specs.declared.Facts.{Facts}

abbrev pub state : ℕ → ℕ → ℕ → Phase → List Module → Module → List Added → State
state f b d p ms M ds = record { fields = f; bytes = b; declarations = d; phase = p; ended = ms; current = M; definitions = ds }

abbrev Fresh : ℕ → ℕ → Type 0
Fresh o p = p ≡ o → ⊥

-- two ways through the modules: one of those ended, or the one that is open
pub up_to : (P : ℕ → Type 0) (k : ℕ) → ((m : ℕ) → m < k → P m) → P k → (m : ℕ) → m ≤ k → P m
up_to P k f e m h = go (dec_lt m k)
  where
    go : Dec (m < k) → P m
    go (yes l) = f m l
    go (no n) = let q : k ≡ m = omega arith in subst P q e

pub known_more : (f d f' d' : ℕ) → f ≤ f' → d ≤ d' → (l : List ℕ) → All (Known f d) l → All (Known f' d') l
known_more f d f' d' a b l h =
    map-all _ _ (λ (p : ℕ) (k : Known f d p). record { below = omega arith; defined = λ (q : p < max_definitions). let within = k.defined q in omega arith }) l h

module _ (v : Store) (c : Counts) (s : State) (holds : Holds v c s) where
  fits : Sized v c
  fits = holds.sized

  pub ended-no : (M : Module) (m : ℕ) → m < c.modules → get_or (s.ended ++ (M ∷ [])) m no_module ≡ module_no s m
  ended-no M m h =
      let l : m < length s.ended = omega (arith, holds.modules) in
      get_or-append s.ended (M ∷ []) no_module m l ∙ sym (get_or-append s.ended (s.current ∷ []) no_module m l)

  -- the module open is another
  pub shown-within : (w : Store) (M : Module) → ((m : ℕ) → m < c.modules → module_at w m ≡ module_at v m) → module_at w c.modules ≡ M
      → (m : ℕ) → m ≤ c.modules → module_at w m ≡ get_or (s.ended ++ (M ∷ [])) m no_module
  shown-within w M f e =
      up_to (λ m. module_at w m ≡ get_or (s.ended ++ (M ∷ [])) m no_module) c.modules
      (λ m l. f m l ∙ holds.shown m (omega arith) ∙ sym (ended-no M m l))
      (e ∙ sym (get_or_at s.ended M [] no_module c.modules (sym holds.modules)))

  pub current-shown : module_at v c.modules ≡ s.current
  current-shown = holds.shown c.modules (omega arith) ∙ get_or_at s.ended s.current [] no_module c.modules (sym holds.modules)

  -- definitions come after those that are there
  pub described-within : (w : Store) (ds : List Added) → ((g : ℕ) (d : Definition) → g < c.definitions → described_as w g d ≡ described_as v g d)
      → (g : ℕ) → g < c.definitions → described_as w g (get_or (s.definitions ++ ds) g no_definition).meaning ≡ get_or (s.definitions ++ ds) g no_definition
  described-within w ds f g h =
      let l : g < length s.definitions = omega (arith, holds.definitions) in
      rw (get_or-append s.definitions ds no_definition g l) (f g (definition_at s g).meaning h ∙ holds.described g h)

  fresh-field : (m : ℕ) → m ≤ c.modules → All (Fresh (max_definitions + c.fields)) (codes_of v m)
  fresh-field m h =
      map-all (Known c.fields c.definitions) (Fresh (max_definitions + c.fields)) (λ (p : ℕ) (k : Known c.fields c.definitions p) (e : p ≡ max_definitions + c.fields). omega arith) (codes_of v m) (holds.known m h)

  fresh-definition : c.definitions < max_definitions → (m : ℕ) → m ≤ c.modules → All (Fresh c.definitions) (codes_of v m)
  fresh-definition l m h =
      map-all (Known c.fields c.definitions) (Fresh c.definitions) (λ (p : ℕ) (k : Known c.fields c.definitions p) (e : p ≡ c.definitions). let within = k.defined (omega arith) in omega arith)
      (codes_of v m) (holds.known m h)

  -- a field that adds nothing to the contexts
  pub hold-tick : (b : ℕ) (p : Phase) → c.fields < max_fields
      → Holds v (counts (c.fields + 1) c.declarations c.modules c.definitions) (state (suc s.fields) b s.declarations p s.ended s.current s.definitions)
  hold-tick b p l = record {
    fields = omega (arith, holds.fields);
    declarations = holds.declarations;
    modules = holds.modules;
    definitions = holds.definitions;
    shown = holds.shown;
    described = holds.described;
    linked = holds.linked;
    known = λ m h. known_more c.fields c.definitions (c.fields + 1) c.definitions (omega arith) (omega arith) (codes_of v m) (holds.known m h);
    sized = record {
      names = fits.names;
      facts = fits.facts;
      contexts = fits.contexts;
      orders = fits.orders;
      heads = fits.heads;
      declared = fits.declared;
      modules = fits.modules;
      definitions = fits.definitions;
      fields = omega arith;
      context_room = λ m h. let within = fits.context_room m h in omega arith;
      order_room = fits.order_room;
    };
  }

  -- a field that adds a name of its own: declared, or an instance
  module _ (name : ℕ) (r : Facts) (few : c.fields < max_fields) where
    abbrev o : ℕ
    o = field_code c.fields

    abbrev entering : Store
    entering = with_row v o name r

    abbrev pub with_field : Store
    with_field = in_context entering c.modules o

    room : (m : ℕ) → m ≤ c.modules → get_or v.heads (context_slot m) 0 ≤ context_length
    room m h = let within = fits.context_room m h in omega (arith, fits.definitions)

    space : c.modules * context_length + get_or v.heads (context_slot c.modules) 0 < contexts_length
    space = let within = fits.context_room c.modules (omega arith) in omega (arith, fits.definitions, fits.modules)

    pub hold-field : (e : Entry) (b n : ℕ) (p : Phase) → entry_at (set v.names o name) (set v.facts o r) o ≡ e
        → Holds with_field (counts (c.fields + 1) (c.declarations + n) c.modules c.definitions)
        (state (suc s.fields) b (s.declarations + n) p s.ended (with_more s.current (e ∷ []) []) s.definitions)
    hold-field e b n p q = record {
      fields = omega (arith, holds.fields);
      declarations = omega (arith, holds.declarations);
      modules = holds.modules;
      definitions = holds.definitions;
      shown = shown-within with_field (with_more s.current (e ∷ []) [])
          (λ m h. push-other entering c.modules o fits.modules m h (room m (omega arith)) ∙ enter-module v o name r m (fresh-field m (omega arith)))
          (push-same entering c.modules o fits.modules (omega (arith, fits.heads, fits.modules)) (omega (arith, fits.contexts, space))
          ∙ ap₂ (λ (M : Module) (x : Entry). with_more M (x ∷ []) []) (enter-module v o name r c.modules (fresh-field c.modules (omega arith)) ∙ current-shown) q);
      described = λ g h. enter-definition v o name r g _ (λ (x : g ≡ o). omega (arith, fits.definitions)) ∙ holds.described g h;
      linked = λ g h. enter-linked v o name r g (definition_at s g).meaning (λ (x : g ≡ o). omega (arith, fits.definitions)) (holds.linked g h);
      known = up_to (λ m. All (Known (c.fields + 1) c.definitions) (codes_of with_field m)) c.modules
          (λ m h. subst (All (Known (c.fields + 1) c.definitions)) (sym (push-codes-other entering c.modules o fits.modules m h (room m (omega arith)))) (older m (omega arith)))
          (subst (All (Known (c.fields + 1) c.definitions)) (sym (push-codes-same entering c.modules o fits.modules (omega (arith, fits.heads, fits.modules)) (omega (arith, fits.contexts, space))))
          (append-all (Known (c.fields + 1) c.definitions) (codes_of v c.modules) (o ∷ []) (older c.modules (omega arith))
          (record { below = omega arith; defined = λ (x : o < max_definitions). omega arith }, tt)));
      sized = record {
        names = length-set v.names o name ∙ fits.names;
        facts = length-set v.facts o r ∙ fits.facts;
        contexts = length-set v.contexts (c.modules * context_length + get_or v.heads (context_slot c.modules) 0) o ∙ fits.contexts;
        orders = fits.orders;
        heads = length-set v.heads (context_slot c.modules) (get_or v.heads (context_slot c.modules) 0 + 1) ∙ fits.heads;
        declared = fits.declared;
        modules = fits.modules;
        definitions = fits.definitions;
        fields = omega arith;
        context_room = up_to (λ m. get_or with_field.heads (context_slot m) 0 ≤ max_definitions + (c.fields + 1) + c.definitions) c.modules
            (λ m h. let within = fits.context_room m (omega arith) in
            rw (get_or-set_other v.heads (context_slot c.modules) (context_slot m) (get_or v.heads (context_slot c.modules) 0 + 1) 0 (λ (x : context_slot m ≡ context_slot c.modules). omega arith)) (omega arith))
            (let within = fits.context_room c.modules (omega arith) in
            rw (get_or-set_same v.heads (context_slot c.modules) (get_or v.heads (context_slot c.modules) 0 + 1) 0 (omega (arith, fits.heads, fits.modules))) (omega arith));
        order_room = λ m h. let within = fits.order_room m h in
            rw (get_or-set_other v.heads (context_slot c.modules) (order_slot m) (get_or v.heads (context_slot c.modules) 0 + 1) 0 (λ (x : order_slot m ≡ context_slot c.modules). omega (arith, fits.modules))) within;
      };
    }
      where
        older : (m : ℕ) → m ≤ c.modules → All (Known (c.fields + 1) c.definitions) (codes_of v m)
        older m h = known_more c.fields c.definitions (c.fields + 1) c.definitions (omega arith) (omega arith) (codes_of v m) (holds.known m h)

    -- what is kept of a field that adds no name
    pub hold-note : (b : ℕ) (p : Phase)
        → Holds entering (counts (c.fields + 1) c.declarations c.modules c.definitions) (state (suc s.fields) b s.declarations p s.ended s.current s.definitions)
    hold-note b p = record {
      fields = omega (arith, holds.fields);
      declarations = holds.declarations;
      modules = holds.modules;
      definitions = holds.definitions;
      shown = λ m h. enter-module v o name r m (fresh-field m h) ∙ holds.shown m h;
      described = λ g h. enter-definition v o name r g _ (λ (x : g ≡ o). omega (arith, fits.definitions)) ∙ holds.described g h;
      linked = λ g h. enter-linked v o name r g (definition_at s g).meaning (λ (x : g ≡ o). omega (arith, fits.definitions)) (holds.linked g h);
      known = λ m h. known_more c.fields c.definitions (c.fields + 1) c.definitions (omega arith) (omega arith) (codes_of v m) (holds.known m h);
      sized = record {
        names = length-set v.names o name ∙ fits.names;
        facts = length-set v.facts o r ∙ fits.facts;
        contexts = fits.contexts;
        orders = fits.orders;
        heads = fits.heads;
        declared = fits.declared;
        modules = fits.modules;
        definitions = fits.definitions;
        fields = omega arith;
        context_room = λ m h. let within = fits.context_room m h in omega arith;
        order_room = fits.order_room;
      };
    }

  -- a definition more, in the file and in the module's list; its name is not yet in the context
  module _ (name : ℕ) (r : Facts) (few : c.definitions < max_definitions) where
    abbrev g : ℕ
    g = c.definitions

    abbrev describing : Store
    describing = with_row v g name r

    abbrev pub with_definition : Store
    with_definition = in_order describing c.modules g

    list-room : (m : ℕ) → m ≤ c.modules → get_or v.heads (order_slot m) 0 ≤ max_definitions
    list-room m h = let within = fits.order_room m h in omega arith

    list-space : c.modules * max_definitions + get_or v.heads (order_slot c.modules) 0 < orders_length
    list-space = let within = fits.order_room c.modules (omega arith) in omega (arith, fits.modules)

    pub hold-define : (d : Definition) → Linked g d r.source r.link
        → Holds with_definition (counts c.fields c.declarations c.modules (g + 1))
        (state s.fields s.bytes s.declarations s.phase s.ended (with_more s.current [] (g ∷ []))
        (s.definitions ++ (record { path = path_of r.via; name = name; params = r.kind; body_start = r.first; body_length = r.count; meaning = d } ∷ [])))
    hold-define d link = record {
      fields = holds.fields;
      declarations = holds.declarations;
      modules = holds.modules;
      definitions = rw length-append (omega (arith, holds.definitions));
      shown = shown-within with_definition (with_more s.current [] (g ∷ []))
          (λ m h. order_other describing c.modules g fits.modules m h (list-room m (omega arith)) ∙ enter-module v g name r m (fresh-definition few m (omega arith)))
          (order_same describing c.modules g fits.modules (omega (arith, fits.heads, fits.modules)) (omega (arith, fits.orders, list-space))
          ∙ ap (λ (M : Module). with_more M [] (g ∷ [])) (enter-module v g name r c.modules (fresh-definition few c.modules (omega arith)) ∙ current-shown));
      described = λ i h. split i h (dec_lt i g);
      linked = λ i h. split-linked i h (dec_lt i g);
      known = λ m h. subst (All (Known c.fields (g + 1))) (sym (order-codes describing c.modules g fits.modules m (omega (arith, fits.modules))))
          (known_more c.fields g c.fields (g + 1) (omega arith) (omega arith) (codes_of v m) (holds.known m h));
      sized = record {
        names = length-set v.names g name ∙ fits.names;
        facts = length-set v.facts g r ∙ fits.facts;
        contexts = fits.contexts;
        orders = length-set v.orders (c.modules * max_definitions + get_or v.heads (order_slot c.modules) 0) g ∙ fits.orders;
        heads = length-set v.heads (order_slot c.modules) (get_or v.heads (order_slot c.modules) 0 + 1) ∙ fits.heads;
        declared = fits.declared;
        modules = fits.modules;
        definitions = omega arith;
        fields = fits.fields;
        context_room = λ m h. let within = fits.context_room m h in
            rw (get_or-set_other v.heads (order_slot c.modules) (context_slot m) (get_or v.heads (order_slot c.modules) 0 + 1) 0 (λ (x : context_slot m ≡ order_slot c.modules). omega (arith, fits.modules))) (omega arith);
        order_room = up_to (λ m. get_or with_definition.heads (order_slot m) 0 ≤ g + 1) c.modules
            (λ m h. let within = fits.order_room m (omega arith) in
            rw (get_or-set_other v.heads (order_slot c.modules) (order_slot m) (get_or v.heads (order_slot c.modules) 0 + 1) 0 (λ (x : order_slot m ≡ order_slot c.modules). omega arith)) (omega arith))
            (let within = fits.order_room c.modules (omega arith) in
            rw (get_or-set_same v.heads (order_slot c.modules) (get_or v.heads (order_slot c.modules) 0 + 1) 0 (omega (arith, fits.heads, fits.modules))) (omega arith));
      };
    }
      where
        new : Added
        new = record { path = path_of r.via; name = name; params = r.kind; body_start = r.first; body_length = r.count; meaning = d }

        last : get_or (s.definitions ++ (new ∷ [])) g no_definition ≡ new
        last = get_or_at s.definitions new [] no_definition g (sym holds.definitions)

        split : (i : ℕ) → i < g + 1 → Dec (i < g)
            → described_as with_definition i (get_or (s.definitions ++ (new ∷ [])) i no_definition).meaning ≡ get_or (s.definitions ++ (new ∷ [])) i no_definition
        split i h (yes l) =
            described-within with_definition (new ∷ []) (λ j e q. enter-definition v g name r j e (λ (x : j ≡ g). omega arith)) i l
        split i h (no n) =
            let q : i ≡ g = omega arith in
            rw (q, last) (enter-new v g name r d (omega (arith, fits.names)) (omega (arith, fits.facts)))

        split-linked : (i : ℕ) → i < g + 1 → Dec (i < g)
            → Linked i (get_or (s.definitions ++ (new ∷ [])) i no_definition).meaning (source_at with_definition.facts i) (link_at with_definition.facts i)
        split-linked i h (yes l) =
            let q : i < length s.definitions = omega (arith, holds.definitions) in
            rw (get_or-append s.definitions (new ∷ []) no_definition i q) (enter-linked v g name r i (definition_at s i).meaning (λ (x : i ≡ g). omega arith) (holds.linked i l))
        split-linked i h (no n) =
            let q : i ≡ g = omega arith in
            rw (q, last) (enter-new-linked v g name r d (omega (arith, fits.facts)) link)

  -- the name of a definition comes into the context
  module _ (code : ℕ) (there : code < c.definitions) (spare : get_or v.heads (context_slot c.modules) 0 < max_definitions + c.fields + c.definitions) where
    abbrev pub with_name : Store
    with_name = in_context v c.modules code

    name-room : (m : ℕ) → m ≤ c.modules → get_or v.heads (context_slot m) 0 ≤ context_length
    name-room m h = let within = fits.context_room m h in omega (arith, fits.definitions, fits.fields)

    name-space : c.modules * context_length + get_or v.heads (context_slot c.modules) 0 < contexts_length
    name-space = omega (arith, fits.definitions, fits.modules, fits.fields)

    entry-defined : entry_at v.names v.facts code ≡ defines (definition_at s code).name code
    unfolding entry_at
    entry-defined =
        rw (lt-ltb code max_definitions (omega (arith, fits.definitions)))
        (ap (λ (n : ℕ). defines n code) (ap (λ (d : Added). d.name) (holds.described code there)))

    pub hold-name : Holds with_name c
        (state s.fields s.bytes s.declarations s.phase s.ended (with_more s.current (defines (definition_at s code).name code ∷ []) []) s.definitions)
    hold-name = record {
      fields = holds.fields;
      declarations = holds.declarations;
      modules = holds.modules;
      definitions = holds.definitions;
      shown = shown-within with_name (with_more s.current (defines (definition_at s code).name code ∷ []) [])
          (λ m h. push-other v c.modules code fits.modules m h (name-room m (omega arith)))
          (push-same v c.modules code fits.modules (omega (arith, fits.heads, fits.modules)) (omega (arith, fits.contexts, name-space))
          ∙ ap₂ (λ (M : Module) (x : Entry). with_more M (x ∷ []) []) current-shown entry-defined);
      described = holds.described;
      linked = holds.linked;
      known = up_to (λ m. All (Known c.fields c.definitions) (codes_of with_name m)) c.modules
          (λ m h. subst (All (Known c.fields c.definitions)) (sym (push-codes-other v c.modules code fits.modules m h (name-room m (omega arith)))) (holds.known m (omega arith)))
          (subst (All (Known c.fields c.definitions)) (sym (push-codes-same v c.modules code fits.modules (omega (arith, fits.heads, fits.modules)) (omega (arith, fits.contexts, name-space))))
          (append-all (Known c.fields c.definitions) (codes_of v c.modules) (code ∷ []) (holds.known c.modules (omega arith))
          (record { below = omega (arith, fits.definitions); defined = λ (x : code < max_definitions). there }, tt)));
      sized = record {
        names = fits.names;
        facts = fits.facts;
        contexts = length-set v.contexts (c.modules * context_length + get_or v.heads (context_slot c.modules) 0) code ∙ fits.contexts;
        orders = fits.orders;
        heads = length-set v.heads (context_slot c.modules) (get_or v.heads (context_slot c.modules) 0 + 1) ∙ fits.heads;
        declared = fits.declared;
        modules = fits.modules;
        definitions = fits.definitions;
        fields = fits.fields;
        context_room = up_to (λ m. get_or with_name.heads (context_slot m) 0 ≤ max_definitions + c.fields + c.definitions) c.modules
            (λ m h. let within = fits.context_room m (omega arith) in
            rw (get_or-set_other v.heads (context_slot c.modules) (context_slot m) (get_or v.heads (context_slot c.modules) 0 + 1) 0 (λ (x : context_slot m ≡ context_slot c.modules). omega arith)) within)
            (rw (get_or-set_same v.heads (context_slot c.modules) (get_or v.heads (context_slot c.modules) 0 + 1) 0 (omega (arith, fits.heads, fits.modules))) (omega arith));
        order_room = λ m h. let within = fits.order_room m h in
            rw (get_or-set_other v.heads (context_slot c.modules) (order_slot m) (get_or v.heads (context_slot c.modules) 0 + 1) 0 (λ (x : order_slot m ≡ context_slot c.modules). omega (arith, fits.modules))) within;
      };
    }
