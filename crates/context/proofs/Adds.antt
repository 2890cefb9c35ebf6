-- Each addition, field by field: where the store shows a state, what the addition leaves shows the state with that field added.
use borrow.Author.Tests.{le-ltb, lt-ltb}
use mathlib.Core.List.{List, [], ◌++◌, ◌∷◌, append-nil}
use mathlib.Core.Path.{◌∙◌, ◌≡◌, ap, ap₂, refl, subst, subst⁻¹, sym}
use lib.ListN.{get_or, length, length-replicate, length-set, set}
use lib.Seq.{get_or_at, get_or-set_other, get_or-set_same, set_comm}
use native.Mathlib.Nat.{add-zero}
use native.Mathlib.Omega.{arith}
use Prim.Native.Nat.{◌*◌, ◌+◌, ◌-◌, ◌<◌, suc, ℕ}
use Rattle.context.proofs.Begins.{hold-begin, hold-end}
use Rattle.context.proofs.Change.{fact-same}
use Rattle.context.proofs.Growing.{hold-define, hold-field, hold-name, hold-tick, state}
use Rattle.context.specs.Holds.{Holds, Linked}
use Rattle.context.specs.Parts.{part}
use Rattle.context.specs.Entries.{after_declaration, after_definitions, after_end, after_field, begun, counts, declaration_row, declaring, defining, entry_at, field_code, no_counts, own_row, path_of, variable_kind}
use Rattle.store.specs.Store.{context_slot, empty, kind_at, no_facts, order_slot}
use Rattle.store.specs.declared.Store.{Store}
use Rattle.store.specs.Updates.{grown, in_context, in_order, with_contexts, with_declared, with_heads, with_orders, with_row}
use Rattle.limits.specs.Limits.{max_declarations, max_definitions, max_modules}
use Rattle.limits.specs.Sizes.{code_count, context_length, contexts_length, heads_length, max_fields, orders_length}
use Rattle.rules.specs.Add.{add, own_one, with_more}
use Rattle.rules.specs.Expression.{Expression, expression}
use Rattle.rules.specs.Field.{assume, begin_module, declare_constant, declare_variable, definition, end_module, theorem}
use Rattle.rules.specs.State.{Added, Module, State, declares, defines, definition_at, inside, no_definition, outside, start}
use Rattle.theory.specs.Expand.{Definition}
use Rattle.theory.specs.Term.{constant, variable}
use Rattle.context.specs.declared.Counts.{Counts}
use Rattle.store.specs.declared.Facts.{Facts}

-- nothing was added
pub hold-start : Holds empty no_counts start
unfolding part
hold-start = record {
  fields = refl;
  declarations = refl;
  modules = refl;
  definitions = refl;
  shown = λ m h. let q : m ≡ 0 = omega arith in rw q refl;
  described = λ g h. absurd (omega arith);
  linked = λ g h. absurd (omega arith);
  known = λ m h. let q : m ≡ 0 = omega arith in rw q tt;
  sized = record {
    names = length-replicate {A = ℕ} code_count 0;
    facts = length-replicate {A = Facts} code_count no_facts;
    contexts = length-replicate {A = ℕ} contexts_length 0;
    orders = length-replicate {A = ℕ} orders_length 0;
    heads = length-replicate {A = ℕ} heads_length 0;
    declared = length-replicate {A = ℕ} max_declarations 0;
    modules = omega arith;
    definitions = omega arith;
    fields = omega arith;
    context_room = λ m h. let q : m ≡ 0 = omega arith in rw q (omega arith);
    order_room = λ m h. let q : m ≡ 0 = omega arith in rw q (omega arith);
  };
}

-- only these parts of a state are shown
pub hold-as : (v : Store) (c : Counts) (s t : State) → Holds v c s → t.fields ≡ s.fields → t.declarations ≡ s.declarations → t.ended ≡ s.ended
    → t.current ≡ s.current → t.definitions ≡ s.definitions → Holds v c t
hold-as v c s t h a b d e f =
    subst⁻¹ (Holds v c) {x = t} {y = state s.fields t.bytes s.declarations t.phase s.ended s.current s.definitions}
    (λ i. state (a i) t.bytes (b i) t.phase (d i) (e i) (f i))
    (record {
      fields = h.fields;
      declarations = h.declarations;
      modules = h.modules;
      definitions = h.definitions;
      shown = h.shown;
      described = h.described;
      linked = h.linked;
      known = h.known;
      sized = h.sized;
    })

module _ (v : Store) (c : Counts) (s : State) (holds : Holds v c s) (room : c.fields < max_fields) where
  pub adds-module : (n : ℕ) → Holds (begun v c.modules n) (after_field c) (add s (begin_module n))
  adds-module n =
      hold-as (begun v c.modules n) (after_field c) _ (add s (begin_module n)) (hold-begin v c s holds n 0 inside room)
      refl (add-zero s.declarations) (append-nil s.ended) refl (append-nil s.definitions)

  pub adds-end : c.modules < max_modules → Holds (begun v (c.modules + 1) 0) (after_end c) (add s end_module)
  adds-end few =
      hold-as (begun v (c.modules + 1) 0) (after_end c) _ (add s end_module) (hold-end v c s holds 0 outside room few)
      refl (add-zero s.declarations) refl refl (append-nil s.definitions)

  -- ASSUME and THEOREM
  pub adds-assume : (e : Expression) → Holds v (after_field c) (add s (assume e))
  adds-assume e =
      hold-as v _ _ (add s (assume e)) (hold-tick v c s holds 0 inside room) refl (add-zero s.declarations) (append-nil s.ended) refl (append-nil s.definitions)

  pub adds-theorem : (e : Expression) → Holds v (after_field c) (add s (theorem e))
  adds-theorem e =
      hold-as v _ _ (add s (theorem e)) (hold-tick v c s holds 0 inside room) refl (add-zero s.declarations) (append-nil s.ended) refl (append-nil s.definitions)

  -- declarations

  kind-there : (kind : ℕ) → kind_at (set v.facts (field_code c.fields) (declaration_row kind c.declarations)) (field_code c.fields) ≡ kind
  kind-there kind = ap (λ (f : Facts). f.kind) (fact-same v.facts (field_code c.fields) (declaration_row kind c.declarations) (omega (arith, holds.sized.facts)))

  name-there : (name : ℕ) → get_or (set v.names (max_definitions + c.fields) name) (max_definitions + c.fields) 0 ≡ name
  name-there name = get_or-set_same v.names (max_definitions + c.fields) name 0 (omega (arith, holds.sized.names))

  field-there : max_definitions + c.fields - max_definitions ≡ s.fields
  field-there = omega (arith, holds.fields)

  -- the codes of the declarations are not part of what is shown
  hold-declared : (w : Store) (d : Counts) (t : State) → Holds w d t → (i o : ℕ) → Holds (with_declared w (set w.declared i o)) d t
  hold-declared w d t h i o = record {
    fields = h.fields;
    declarations = h.declarations;
    modules = h.modules;
    definitions = h.definitions;
    shown = h.shown;
    described = h.described;
    linked = h.linked;
    known = h.known;
    sized = record {
      names = h.sized.names;
      facts = h.sized.facts;
      contexts = h.sized.contexts;
      orders = h.sized.orders;
      heads = h.sized.heads;
      declared = length-set w.declared i o ∙ h.sized.declared;
      modules = h.sized.modules;
      definitions = h.sized.definitions;
      fields = h.sized.fields;
      context_room = h.sized.context_room;
      order_room = h.sized.order_room;
    };
  }

  pub adds_constant : (n k : ℕ) → k < variable_kind → Holds (declaring v c k n) (after_declaration c) (add s (declare_constant n k))
  unfolding entry_at
  adds_constant n k small =
      hold-as (declaring v c k n) (after_declaration c) _ (add s (declare_constant n k))
      (hold-declared _ _ _ (hold-field v c s holds n (declaration_row k c.declarations) room (declares n (constant k) s.fields) 0 1 inside
      (rw (le-ltb (max_definitions + c.fields) max_definitions (omega arith), kind-there k, lt-ltb k variable_kind small, name-there n, field-there) refl)) c.declarations (field_code c.fields))
      refl refl (append-nil s.ended) refl (append-nil s.definitions)

  pub adds-variable : (n : ℕ) → Holds (declaring v c variable_kind n) (after_declaration c) (add s (declare_variable n))
  unfolding entry_at
  adds-variable n =
      hold-as (declaring v c variable_kind n) (after_declaration c) _ (add s (declare_variable n))
      (hold-declared _ _ _ (hold-field v c s holds n (declaration_row variable_kind c.declarations) room (declares n variable s.fields) 0 1 inside
      (rw (le-ltb (max_definitions + c.fields) max_definitions (omega arith), kind-there variable_kind, name-there n, field-there) refl)) c.declarations (field_code c.fields))
      refl refl (append-nil s.ended) refl (append-nil s.definitions)

  -- definitions

  module _ (few : c.definitions < max_definitions) where
    abbrev k : ℕ
    k = c.modules

    abbrev g : ℕ
    g = c.definitions

    abbrev described : ℕ → Facts → Store
    described name r = in_order (with_row v g name r) k g

    slot : get_or (set v.heads (order_slot k) (get_or v.heads (order_slot k) 0 + 1)) (context_slot k) 0 ≡ get_or v.heads (context_slot k) 0
    slot = get_or-set_other v.heads (order_slot k) (context_slot k) (get_or v.heads (order_slot k) 0 + 1) 0 (λ (e : context_slot k ≡ order_slot k). omega arith)

    heads-same : set (set v.heads (order_slot k) (get_or v.heads (order_slot k) 0 + 1)) (context_slot k) (get_or (set v.heads (order_slot k) (get_or v.heads (order_slot k) 0 + 1)) (context_slot k) 0 + 1) ≡ grown v.heads k
    unfolding grown
    heads-same =
        ap (λ (n : ℕ). set (set v.heads (order_slot k) (get_or v.heads (order_slot k) 0 + 1)) (context_slot k) (n + 1)) slot
        ∙ set_comm v.heads (order_slot k) (context_slot k) (get_or v.heads (order_slot k) 0 + 1) (get_or v.heads (context_slot k) 0 + 1) (λ (e : order_slot k ≡ context_slot k). omega arith)

    store_same : (name : ℕ) (r : Facts) → in_context (described name r) k g ≡ defining v c name r
    store_same name r =
        ap₂ (λ (i : ℕ) (h : List ℕ). with_heads (with_orders (with_contexts (with_row v g name r) (set v.contexts (k * context_length + i) g))
        (set v.orders (k * max_definitions + get_or v.heads (order_slot k) 0) g)) h) slot heads-same

    module _ (n : ℕ) (r : Facts) (d : Definition) (link : Linked g d r.source r.link) where
      abbrev new : Added
      new = record { path = path_of r.via; name = n; params = r.kind; body_start = r.first; body_length = r.count; meaning = d }

      abbrev middle : State
      middle = state s.fields s.bytes s.declarations s.phase s.ended (with_more s.current [] (g ∷ [])) (s.definitions ++ (new ∷ []))

      named : (definition_at middle g).name ≡ n
      named = ap (λ (a : Added). a.name) (get_or_at s.definitions new [] no_definition g (sym holds.definitions))

      with-both : with_more (with_more s.current [] (g ∷ [])) (defines (definition_at middle g).name g ∷ []) [] ≡ with_more s.current (defines n g ∷ []) (g ∷ [])
      with-both =
          λ i. record {
            name = s.current.name;
            context = append-nil s.current.context i ++ (defines (named i) g ∷ []);
            definitions = append-nil (s.current.definitions ++ (g ∷ [])) i;
          }

      defined-one : Holds (described n r) (counts c.fields c.declarations k (g + 1)) middle
      defined-one = hold-define v c s holds n r few d link

      named-one : Holds (in_context (described n r) k g) (counts c.fields c.declarations k (g + 1))
          (state s.fields s.bytes s.declarations s.phase s.ended (with_more (with_more s.current [] (g ∷ [])) (defines (definition_at middle g).name g ∷ []) []) (s.definitions ++ (new ∷ [])))
      named-one =
          hold-name (described n r) (counts c.fields c.declarations k (g + 1)) middle defined-one g (omega arith)
          (let within = holds.sized.context_room k (omega arith) in rw slot (omega arith))

      -- before the field is counted
      pub plain-one : Holds (defining v c n r) (counts c.fields c.declarations k (g + 1))
          (state s.fields s.bytes s.declarations s.phase s.ended (with_more s.current (defines n g ∷ []) (g ∷ [])) (s.definitions ++ (new ∷ [])))
      plain-one =
          subst (λ (M : Module). Holds (defining v c n r) (counts c.fields c.declarations k (g + 1)) (state s.fields s.bytes s.declarations s.phase s.ended M (s.definitions ++ (new ∷ [])))) with-both
          (subst (λ (w : Store). Holds w (counts c.fields c.declarations k (g + 1)) (state s.fields s.bytes s.declarations s.phase s.ended (with_more (with_more s.current [] (g ∷ [])) (defines (definition_at middle g).name g ∷ []) []) (s.definitions ++ (new ∷ [])))) (store_same n r) named-one)

      abbrev last : State
      last =
          state (suc s.fields) 0 s.declarations inside s.ended
          (with_more (with_more s.current [] (g ∷ [])) (defines (definition_at middle g).name g ∷ []) []) (s.definitions ++ (new ∷ []))

      counted-one : Holds (defining v c n r) (after_definitions 1 c) last
      counted-one =
          subst (λ (w : Store). Holds w (after_definitions 1 c) last) (store_same n r)
          (hold-tick (in_context (described n r) k g) (counts c.fields c.declarations k (g + 1)) _ named-one 0 inside room)

    pub adds-definition : (n p : ℕ) (e : Expression)
        → Holds (defining v c n (own_row g p (s.bytes + 6) (length (expression.write e)))) (after_definitions 1 c) (add s (definition n p e))
    adds-definition n p e =
        hold-as (defining v c n own-one) (after_definitions 1 c) _ (add s (definition n p e)) (counted-one n own-one (own_one s n p e).meaning (refl, refl))
        refl (add-zero s.declarations) (append-nil s.ended)
        (sym (with-both n own-one (own_one s n p e).meaning (refl, refl)
        ∙ ap (λ (i : ℕ). with_more s.current (defines n i ∷ []) (i ∷ [])) holds.definitions)) refl
      where
        own-one : Facts
        own-one = own_row g p (s.bytes + 6) (length (expression.write e))

-- the store after a call, by the call's equations
pub hold-store : (v w : Store) (c d : Counts) (s : State) → Holds v c s → d ≡ c → w ≡ v → Holds w d s
hold-store v w c d s h q e = subst⁻¹ (λ (x : Counts). Holds w x s) q (subst⁻¹ (λ (u : Store). Holds u c s) e h)
