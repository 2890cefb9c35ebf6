-- What INSTANCE leaves in the store shows what the rules add.
use borrow.Author.Tests.{le-ltb, ne_eqb}
use mathlib.Core.List.{List, [], ◌++◌, ◌∷◌, append-nil, map}
use mathlib.Core.Path.{◌∙◌, ◌≡◌, ap, refl, subst, subst⁻¹, sym}
use lib.Dec.{eqb-suc-zero}
use lib.ListN.{get_or-append, get_or, length, length-map, set}
use lib.Seq.{append_snoc, get_or-set_same}
use native.Mathlib.Nat.{add-zero, mod-eq_of_lt}
use native.Mathlib.Omega.{arith}
use Prim.Native.Nat.{◌%◌, ◌*◌, ◌+◌, ◌-◌, ◌<◌, ◌≤◌, suc, zero, ℕ}
use Rattle.context.proofs.Adds.{hold-as, plain-one}
use Rattle.context.proofs.Change.{fact-same}
use Rattle.context.proofs.Growing.{hold-define, hold-field, hold-note, state}
use Rattle.context.proofs.Parts.{part_length}
use Rattle.instancing.specs.Bringing.{bring_all, bring_one, brought_row, instance_noted, instance_row, instancing, pushed_contexts, pushed_heads, via_under}
use Rattle.context.specs.Holds.{Holds, Linked, module_no}
use Rattle.context.specs.Entries.{after_definitions, counts, described_as, entry_at, field_code, instance_kind, order_of, path_of, variable_kind, word_count}
use Rattle.store.specs.Store.{kind_at, order_slot, via_at}
use Rattle.store.specs.declared.Store.{Store}
use Rattle.store.specs.Updates.{in_context, in_order, with_row}
use Rattle.limits.specs.Limits.{max_definitions}
use Rattle.limits.specs.Sizes.{code_count, max_fields}
use Rattle.rules.specs.Add.{add, under_names, with_more}
use Rattle.rules.specs.Expression.{first}
use Rattle.rules.specs.Field.{Substitution, instance}
use Rattle.rules.specs.Instance.{brought_all, path_under, source, substitute}
use Rattle.rules.specs.State.{Added, Entry, Module, State, defines, definition_at, inside, instances, no_definition}
use Rattle.theory.proofs.Bytes.{written}
use Rattle.theory.proofs.Lists.{map-all}
use Rattle.theory.specs.Expand.{Definition, brought}
use Rattle.theory.specs.Lists.{All, numbers_from}
use Rattle.theory.specs.Term.{Kind, Term}
use Rattle.context.specs.declared.Counts.{Counts}
use Rattle.store.specs.declared.Facts.{Facts}

-- definition g can be brought: it is there, its parameters with the instance's fit a number and, where the instance has a name, it has none
-- yet (which cause 16 sees to)
pub record Ready (s : State) (p name g : ℕ) : Type 0 where
  pub there : g < length s.definitions
  pub small : p + (definition_at s g).params < word_count
  pub plain : 0 < name → (definition_at s g).path ≡ []

-- ready, among the definitions ds that are there meanwhile; `original` are those before the field
pub record Near (p : ℕ) (original : ℕ → Added) (name N : ℕ) (ds : List Added) (g : ℕ) : Type 0 where
  pub there : g < N
  pub same : get_or ds g no_definition ≡ original g
  pub small : p + (original g).params < word_count
  pub plain : 0 < name → (original g).path ≡ []

-- unnamed, they come under their names
abbrev pub entries : ℕ → ℕ → List Added → List Entry
entries zero d ds = under_names d ds
entries (suc n) d ds = []

abbrev pub grown_by : State → ℕ → ℕ → List Added → State
grown_by s name d ds =
    state s.fields s.bytes s.declarations s.phase s.ended (with_more s.current (entries name d ds) (numbers_from d (length ds))) (s.definitions ++ ds)

added-same : {i i' : List ℕ} {n n' q q' b b' l l' : ℕ} (m : Definition) → i ≡ i' → n ≡ n' → q ≡ q' → b ≡ b' → l ≡ l'
    → ◌≡◌ {A = Added} (record { path = i; name = n; params = q; body_start = b; body_length = l; meaning = m })
    (record { path = i'; name = n'; params = q'; body_start = b'; body_length = l'; meaning = m })
added-same m e f g h k = λ x. record { path = e x; name = f x; params = g x; body_start = h x; body_length = k x; meaning = m }

-- by an instance with p parameters and the substitutes σ
module _ (p : ℕ) (σ : Kind → ℕ → Term) (original : ℕ → Added) (link : ℕ) (linked : 0 < link) where
  abbrev pub brought_of : ℕ → ℕ → Added
  brought_of name g =
      record {
        path = path_under name (original g).path;
        name = (original g).name;
        params = p + (original g).params;
        body_start = (original g).body_start;
        body_length = (original g).body_length;
        meaning = brought p σ g;
      }

  module _ (v : Store) (c : Counts) (s : State) (holds : Holds v c s) (room : c.fields < max_fields) (few : c.definitions < max_definitions) (g name : ℕ)
      (near : Near p original name c.definitions s.definitions g) where
    shown : described_as v g (definition_at s g).meaning ≡ original g
    shown = holds.described g near.there ∙ near.same

    params_same : (p + kind_at v.facts g) % word_count ≡ p + (original g).params
    params_same =
        let q : p + kind_at v.facts g ≡ p + (original g).params = ap (λ (a : Added). p + a.params) shown in
        ap (λ (n : ℕ). n % word_count) q ∙ mod-eq_of_lt near.small

    path-same : (n : ℕ) → (0 < n → (original g).path ≡ []) → path_of (via_under n (via_at v.facts g)) ≡ path_under n (original g).path
    unfolding via_under
    path-same zero plain = ap (λ (a : Added). a.path) shown
    path-same (suc n) plain = rw (eqb-suc-zero n) (ap (◌∷◌ (suc n)) (sym (plain (omega arith))))

    abbrev pub row_of : Facts
    row_of = brought_row v.facts g p name link

    pub stored_one : ◌≡◌ {A = Added}
        (record { path = path_of row_of.via; name = get_or v.names g 0; params = row_of.kind; body_start = row_of.first; body_length = row_of.count; meaning = brought p σ g })
        (brought_of name g)
    unfolding brought_row
    stored_one =
        added-same (brought p σ g) (path-same name near.plain) (ap (λ (a : Added). a.name) shown) params_same (ap (λ (a : Added). a.body_start) shown)
        (ap (λ (a : Added). a.body_length) shown)

    pub linked-one : Linked c.definitions (brought p σ g) row_of.source row_of.link
    unfolding brought_row
    linked-one = (refl, linked)

  bring-step : (v : Store) (c : Counts) (s : State) → Holds v c s → c.fields < max_fields → c.definitions < max_definitions → (g name : ℕ)
      → Near p original name c.definitions s.definitions g
      → Holds (bring_one c.modules p name link v c.definitions g) (counts c.fields c.declarations c.modules (c.definitions + 1))
      (grown_by s name c.definitions (brought_of name g ∷ []))
  unfolding bring_one pushed_contexts pushed_heads
  bring-step v c s holds room few g zero near =
      subst (λ (a : Added). Holds (bring_one c.modules p 0 link v c.definitions g) (counts c.fields c.declarations c.modules (c.definitions + 1)) (grown_by s 0 c.definitions (a ∷ [])))
      (stored_one v c s holds room few g 0 near)
      (plain-one v c s holds room few (get_or v.names g 0) (brought_row v.facts g p 0 link) (brought p σ g) (linked-one v c s holds room few g 0 near))
  bring-step v c s holds room few g (suc n) near =
      rw (eqb-suc-zero n)
      (subst (λ (a : Added). Holds (in_order (with_row v c.definitions (get_or v.names g 0) (brought_row v.facts g p (suc n) link)) c.modules c.definitions)
      (counts c.fields c.declarations c.modules (c.definitions + 1)) (grown_by s (suc n) c.definitions (a ∷ []))) (stored_one v c s holds room few g (suc n) near)
      (hold-define v c s holds (get_or v.names g 0) (brought_row v.facts g p (suc n) link) few (brought p σ g) (linked-one v c s holds room few g (suc n) near)))

  module-more : (M : Module) (name d : ℕ) (a : Added) (ds : List Added)
      → with_more (with_more M (entries name d (a ∷ [])) (d ∷ [])) (entries name (suc d) ds) (numbers_from (suc d) (length ds))
      ≡ with_more M (entries name d (a ∷ ds)) (numbers_from d (length (a ∷ ds)))
  module-more M zero d a ds = λ i. record {
    name = M.name;
    context = append_snoc M.context (defines a.name d) (under_names (suc d) ds) i;
    definitions = append_snoc M.definitions d (numbers_from (suc d) (length ds)) i;
  }
  module-more M (suc n) d a ds = λ i. record {
    name = M.name;
    context = append-nil (M.context ++ []) i;
    definitions = append_snoc M.definitions d (numbers_from (suc d) (length ds)) i;
  }

  near-more : (name N : ℕ) (ds : List Added) (x : Added) → N ≡ length ds → (gs : List ℕ) → All (Near p original name N ds) gs → All (Near p original name (N + 1) (ds ++ (x ∷ []))) gs
  near-more name N ds x e gs h =
      map-all (Near p original name N ds) (Near p original name (N + 1) (ds ++ (x ∷ [])))
      (λ (g : ℕ) (r : Near p original name N ds g). record {
        there = omega (arith, r.there);
        same = get_or-append ds (x ∷ []) no_definition g (omega (arith, r.there)) ∙ r.same;
        small = r.small;
        plain = r.plain;
      }) gs h

  -- all of them
  pub brings-all : (name : ℕ) (gs : List ℕ) (v : Store) (c : Counts) (s : State) (o n : ℕ) → Holds v c s → c.fields < max_fields → o ≡ c.definitions
      → n ≡ c.definitions + length gs → n ≤ max_definitions → All (Near p original name c.definitions s.definitions) gs
      → Holds (bring_all c.modules p name link v o gs) (counts c.fields c.declarations c.modules n) (grown_by s name o (map (brought_of name) gs))
  unfolding bring_all
  brings-all name [] v c s o n holds room e f l h =
      let q : n ≡ c.definitions = omega arith in
      rw q (hold-as v c s (grown_by s name o []) holds refl refl refl (ends name) (append-nil s.definitions))
    where
      ends : (k : ℕ) → with_more s.current (entries k o []) [] ≡ s.current
      ends zero = λ i. record { name = s.current.name; context = append-nil s.current.context i; definitions = append-nil s.current.definitions i }
      ends (suc k) = λ i. record { name = s.current.name; context = append-nil s.current.context i; definitions = append-nil s.current.definitions i }
  brings-all name (g ∷ gs) v c s o n holds room e f l h =
      hold-as _ _ (grown_by t name (suc o) (map (brought_of name) gs)) (grown_by s name o (map (brought_of name) (g ∷ gs)))
      (brings-all name gs (bring_one c.modules p name link v o g) (counts c.fields c.declarations c.modules (o + 1)) t (suc o) n
      step room (omega arith) (omega arith) l (rw e (near-more name c.definitions s.definitions (brought_of name g) holds.definitions gs h.1)))
      refl refl refl (sym (module-more s.current name o (brought_of name g) (map (brought_of name) gs))) (sym (append_snoc s.definitions (brought_of name g) (map (brought_of name) gs)))
    where
      t : State
      t = grown_by s name o (brought_of name g ∷ [])

      step : Holds (bring_one c.modules p name link v o g) (counts c.fields c.declarations c.modules (o + 1)) (grown_by s name o (brought_of name g ∷ []))
      step = rw e (bring-step v c s holds room (omega arith) g name h.0)

-- the field

instance-entry : (names : List ℕ) (facts : List Facts) (f f' name p first count q at written : ℕ) → length names ≡ code_count → length facts ≡ code_count → f < max_fields → f ≡ f'
    → entry_at (set names (field_code f) name) (set facts (field_code f) (instance_row p first count q at written)) (field_code f) ≡ instances name f' (numbers_from first count)
unfolding entry_at
instance-entry names facts f f' name p first count q at written a b l e =
    let i : field_code f - max_definitions ≡ f' = omega arith in
    rw (
      le-ltb (field_code f) max_definitions (omega arith),
      ap (λ (g : Facts). g.kind) (fact-same facts (field_code f) (instance_row p first count q at written) (omega arith)),
      ap (λ (g : Facts). g.first) (fact-same facts (field_code f) (instance_row p first count q at written) (omega arith)),
      ap (λ (g : Facts). g.count) (fact-same facts (field_code f) (instance_row p first count q at written) (omega arith)),
      le-ltb (instance_kind + p) variable_kind (omega arith),
      ne_eqb (instance_kind + p) variable_kind (λ (z : instance_kind + p ≡ variable_kind). omega arith),
      get_or-set_same names (field_code f) name 0 (omega arith),
      i,
    )
    refl

module _ (v : Store) (c : Counts) (s : State) (holds : Holds v c s) (room : c.fields < max_fields) (p m q at written : ℕ) (ss : List Substitution)
    (earlier : q < c.modules) (found : source s m ≡ module_no s q) (few : c.definitions + get_or v.heads (order_slot q) 0 ≤ max_definitions) where
  abbrev gs : List ℕ
  gs = (source s m).definitions

  abbrev count : ℕ
  count = get_or v.heads (order_slot q) 0

  abbrev ds : ℕ → List Added
  ds n = brought_all s n p (source s m) ss

  abbrev total : ℕ
  total = c.definitions + count

  -- the definitions that are brought are those in the order of the module instanced
  pub order-there : order_of v.orders v.heads q ≡ gs
  order-there = ap (λ (M : Module). M.definitions) (holds.shown q (omega arith) ∙ sym found)

  count-there : count ≡ length gs
  count-there = sym (part_length v.orders (q * max_definitions) count) ∙ ap length order-there

  module _ (name : ℕ) (ready : All (Ready s p name) gs) where
    near : All (Near p (definition_at s) name c.definitions s.definitions) gs
    near =
        map-all (Ready s p name) (Near p (definition_at s) name c.definitions s.definitions)
        (λ (g : ℕ) (r : Ready s p name g). record { there = omega (arith, r.there, holds.definitions); same = refl; small = r.small; plain = r.plain }) gs ready

    abbrev brought-store : Store
    brought-store = bring_all c.modules p name (c.fields + 1) v c.definitions (order_of v.orders v.heads q)

    -- the definitions are there; the field is not yet counted
    brought-holds : Holds brought-store (counts c.fields c.declarations c.modules total) (grown_by s name c.definitions (ds name))
    brought-holds =
        subst⁻¹ (λ (l : List ℕ). Holds (bring_all c.modules p name (c.fields + 1) v c.definitions l) (counts c.fields c.declarations c.modules total) (grown_by s name c.definitions (ds name))) order-there
        (brings-all p (substitute s p (source s m) ss) (definition_at s) (c.fields + 1) (omega arith) name gs v c s c.definitions total holds room refl
        (ap (λ (k : ℕ). c.definitions + k) count-there) few near)

  abbrev row_there : Facts
  row_there = instance_row p c.definitions count q at written

  brought-length : (n : ℕ) → count ≡ length (ds n)
  brought-length n = rw length-map count-there

  adds-unnamed : All (Ready s p 0) gs → Holds (instancing c 0 p q at written v) (after_definitions count c) (add s (instance 0 p m ss))
  unfolding instancing instance_noted
  adds-unnamed ready =
      hold-as (instancing c 0 p q at written v) (after_definitions count c) _ (add s (instance 0 p m ss))
      (hold-note (brought-store 0 ready) (counts c.fields c.declarations c.modules total) (grown_by s 0 c.definitions (ds 0)) (brought-holds 0 ready) 0 row_there room 0 inside)
      refl (add-zero s.declarations) (append-nil s.ended)
      (ap (λ (d : ℕ). with_more s.current (under_names d (ds 0)) (numbers_from d (length (ds 0)))) (sym holds.definitions)) refl

  adds-named : (n : ℕ) → All (Ready s p (suc n)) gs → Holds (instancing c (suc n) p q at written v) (after_definitions count c) (add s (instance (suc n) p m ss))
  unfolding instancing instance_noted
  adds-named n ready =
      rw (eqb-suc-zero n)
      (hold-as (in_context (with_row w (field_code c.fields) (suc n) row_there) c.modules (field_code c.fields)) (after_definitions count c) _ (add s (instance (suc n) p m ss))
      (subst (λ (k : ℕ). Holds (in_context (with_row w (field_code c.fields) (suc n) row_there) c.modules (field_code c.fields)) (counts (c.fields + 1) k c.modules total)
      (state (suc s.fields) 0 (s.declarations + 0) inside s.ended (with_more t.current (instances (suc n) s.fields (numbers_from c.definitions count) ∷ []) []) t.definitions))
      (add-zero c.declarations)
      (hold-field w d t held (suc n) row_there room (instances (suc n) s.fields (numbers_from c.definitions count)) 0 0 inside entry))
      refl refl (append-nil s.ended) (sym named) refl)
    where
      w : Store
      w = brought-store (suc n) ready

      d : Counts
      d = counts c.fields c.declarations c.modules total

      t : State
      t = grown_by s (suc n) c.definitions (ds (suc n))

      held : Holds w d t
      held = brought-holds (suc n) ready

      entry : entry_at (set w.names (field_code c.fields) (suc n)) (set w.facts (field_code c.fields) row_there) (field_code c.fields)
          ≡ instances (suc n) s.fields (numbers_from c.definitions count)
      entry =
          instance-entry w.names w.facts c.fields s.fields (suc n) p c.definitions count q at written held.sized.names held.sized.facts room holds.fields

      named : with_more (with_more s.current [] (numbers_from c.definitions (length (ds (suc n))))) (instances (suc n) s.fields (numbers_from c.definitions count) ∷ []) []
          ≡ with_more s.current (instances (suc n) s.fields (numbers_from (length s.definitions) (length (ds (suc n)))) ∷ []) (numbers_from (length s.definitions) (length (ds (suc n))))
      named = λ i. record {
        name = s.current.name;
        context = append-nil s.current.context i ++ (instances (suc n) s.fields (numbers_from (holds.definitions i) (brought-length (suc n) i)) ∷ []);
        definitions = append-nil (s.current.definitions ++ numbers_from (holds.definitions i) (length (ds (suc n)))) i;
      }

  -- INSTANCE, named or not
  pub adds-instance : (name : ℕ) → All (Ready s p name) gs → Holds (instancing c name p q at written v) (after_definitions count c) (add s (instance name p m ss))
  adds-instance zero ready = adds-unnamed ready
  adds-instance (suc n) ready = adds-named n ready
