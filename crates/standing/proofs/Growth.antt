-- Every lawful field only adds to the store: what shows the state before it and the state after it shows that it grows.
use borrow.Author.Tests.{ltb-false}
use mathlib.Core.Bool.{Bool, cond, false, true}
use mathlib.Core.List.{List, [], ◌++◌, ◌∷◌, append_assoc, append-nil, map, map-append}
use mathlib.Core.Option.{none}
use mathlib.Core.Path.{◌∙◌, ◌≡◌, ap, ap₂, refl, subst, sym}
use Prim.Native.Nat.{ℕ, ◌+◌, ◌-◌, ◌≤◌, ◌<◌}
use native.Mathlib.Omega.{arith}
use lib.Dec.{eqb, ltb}
use lib.ListN.{get_or-append, get_or, length, length-append, set}
use lib.Seq.{get_or_at, get_or-set_other}
use Rattle.limits.specs.Limits.{max_definitions}
use Rattle.store.specs.Store.{no_facts}
use Rattle.theory.specs.Lists.{numbers_from}
use Rattle.theory.specs.Term.{constant, variable}
use Rattle.theory.proofs.Lists.{never}
use Rattle.rules.specs.Add.{add, after, brought_entries, extended_module, own_one, with_more}
use Rattle.rules.specs.Field.{Field, assume, begin_module, declare_constant, declare_variable, definition, end_module, extends, instance, theorem}
use Rattle.rules.specs.Instance.{brought_all, source}
use Rattle.rules.specs.Judge.{extended_context, judge, out_of_order}
use Rattle.rules.specs.State.{Added, Context, Entry, Module, Origin, Phase, State, begun, declares, defines, definition_origin, field_origin, here, inside, instances, no_module, origin_of, outside}
use Rattle.laws.proofs.Causes.{clear-field}
use Rattle.context.specs.Holds.{Holds, Known, module_no}
use Rattle.context.specs.Entries.{codes_of, entry_at, field_code, variable_kind}
use Rattle.store.specs.Store.{count_at, first_at, kind_at}
use Rattle.store.specs.declared.Store.{Store}
use Rattle.context.specs.declared.Counts.{Counts}
use Rattle.store.specs.declared.Facts.{Facts}
use Rattle.context.proofs.Change.{fact-other}
use Rattle.judge_plain.proofs.Premises.{EmptyIn, Fresh}
use Rattle.standing.specs.Grows.{Grows, RowsKept}

-- Names and facts

-- nothing was stored,
pub rows_same : (v : Store) (c : Counts) (v' : Store) → v'.names ≡ v.names → v'.facts ≡ v.facts → RowsKept v c v'
rows_same v c v' a b = record {
  names = λ o k. ap (λ (l : List ℕ). get_or l o 0) a;
  facts = λ o k. ap (λ (l : List Facts). get_or l o no_facts) b;
}

-- a code that was not given yet was stored,
pub rows-stored : (v : Store) (c : Counts) (v' : Store) (o name : ℕ) (r : Facts) → (Known c.fields c.definitions o → ⊥) → v'.names ≡ set v.names o name
    → v'.facts ≡ set v.facts o r → RowsKept v c v'
rows-stored v c v' o name r new a b = record {
  names = λ p k. ap (λ (l : List ℕ). get_or l p 0) a ∙ get_or-set_other v.names o p name 0 (λ (e : p ≡ o). new (subst (Known c.fields c.definitions) e k));
  facts = λ p k. ap (λ (l : List Facts). get_or l p no_facts) b ∙ fact-other v.facts o r p (λ (e : p ≡ o). new (subst (Known c.fields c.definitions) e k));
}

-- the codes that a field gives are new
pub new-field : (c : Counts) → Known c.fields c.definitions (field_code c.fields) → ⊥
new-field c k = omega (arith, k.below)

pub new-definition : (c : Counts) (g : ℕ) → c.definitions ≤ g → g < max_definitions → Known c.fields c.definitions g → ⊥
new-definition c g l h k = omega (arith, k.defined h)

-- Contexts

-- an entry tells its code
abbrev code_of : Origin → ℕ
code_of (field_origin f) = max_definitions + f
code_of (definition_origin g) = g

abbrev code_in : Entry → ℕ
code_in e = code_of (origin_of e)

code-back : (names : List ℕ) (facts : List Facts) (o : ℕ) → code_in (entry_at names facts o) ≡ o
unfolding entry_at
code-back names facts o = go (ltb o max_definitions) refl (ltb (kind_at facts o) variable_kind) (eqb (kind_at facts o) variable_kind)
  where
    go : (a : Bool) → ltb o max_definitions ≡ a → (b d : Bool)
        → code_in (cond a (defines (get_or names o 0) o) (cond b (declares (get_or names o 0) (constant (kind_at facts o)) (o - max_definitions))
        (cond d (declares (get_or names o 0) variable (o - max_definitions)) (instances (get_or names o 0) (o - max_definitions) (numbers_from (first_at facts o) (count_at facts o))))))
        ≡ o
    go true e b d = refl
    go false e true d = omega (arith, ltb-false o max_definitions e)
    go false e false true = omega (arith, ltb-false o max_definitions e)
    go false e false false = omega (arith, ltb-false o max_definitions e)

codes-back : (names : List ℕ) (facts : List Facts) (os : List ℕ) → map code_in (map (entry_at names facts) os) ≡ os
codes-back names facts [] = refl
codes-back names facts (o ∷ os) = ap₂ ◌∷◌ (code-back names facts o) (codes-back names facts os)

pub codes-law : (v : Store) (c : Counts) (s : State) → Holds v c s → (m : ℕ) → m ≤ c.modules → codes_of v m ≡ map code_in (module_no s m).context
codes-law v c s holds m l = sym (codes-back v.names v.facts (codes_of v m)) ∙ ap (λ (M : Module). map code_in M.context) (holds.shown m l)

-- The ended modules are the same, the open one's context has more after it.
pub grows-of : (v : Store) (c : Counts) (s : State) (v' : Store) (c' : Counts) (s' : State) → Holds v c s → Holds v' c' s' → RowsKept v c v'
    → c.modules ≤ c'.modules → c.fields ≤ c'.fields → c.definitions ≤ c'.definitions → ((m : ℕ) → m < c.modules → module_no s' m ≡ module_no s m) → (es : Context)
    → (module_no s' c.modules).context ≡ (module_no s c.modules).context ++ es → Grows v c v' c'
grows-of v c s v' c' s' holds holds' rows a b d same es last = record {
  names = rows.names;
  facts = rows.facts;
  contexts = λ m l. codes-law v' c' s' holds' m (omega arith) ∙ ap (λ (M : Module). map code_in M.context) (same m l) ∙ sym (codes-law v c s holds m (omega arith));
  orders = λ m l. ap (λ (M : Module). M.definitions) (holds'.shown m (omega arith) ∙ same m l ∙ sym (holds.shown m (omega arith)));
  more = map code_in es;
  open_context = codes-law v' c' s' holds' c.modules a ∙ ap (map code_in) last ∙ map-append code_in (module_no s c.modules).context es
      ∙ ap (λ (l : List ℕ). l ++ map code_in es) (sym (codes-law v c s holds c.modules (omega arith)));
  fields = b;
  modules = a;
  definitions = d;
}

-- Fields

module _ (v : Store) (c : Counts) (s : State) (v' : Store) (c' : Counts) (holds : Holds v c s) (rows : RowsKept v c v') where
  -- X is the module that was open, with what the field adds
  grows-after : (f : Field) (k : ℕ) (p : Phase) (ms : List Module) (M : Module) (ds : List Added) (X : Module) (rest : List Module) (es : Context)
      → Holds v' c' (after s f k p ms M ds) → ms ++ (M ∷ []) ≡ X ∷ rest → X.context ≡ here s ++ es → Grows v c v' c'
  grows-after f k p ms M ds X rest es holds' e x =
      let l : length (s.ended ++ ms) ≡ length s.ended + length ms = length-append s.ended ms in
      let g : length (s.definitions ++ ds) ≡ length s.definitions + length ds = length-append s.definitions ds in
      let all : (s.ended ++ ms) ++ (M ∷ []) ≡ s.ended ++ (X ∷ rest) = append_assoc s.ended ms (M ∷ []) ∙ ap (λ (l : List Module). s.ended ++ l) e in
      grows-of v c s v' c' (after s f k p ms M ds) holds holds' rows (omega (arith, holds.modules, holds'.modules)) (omega (arith, holds.fields, holds'.fields))
      (omega (arith, holds.definitions, holds'.definitions))
      (λ m h. let n : m < length s.ended = omega (arith, holds.modules) in
      ap (λ (l : List Module). get_or l m no_module) all ∙ get_or-append s.ended (X ∷ rest) no_module m n ∙ sym (get_or-append s.ended (s.current ∷ []) no_module m n))
      es
      (ap (λ (l : List Module). (get_or l c.modules no_module).context) all
      ∙ ap (λ (M : Module). M.context) (get_or_at s.ended X rest no_module c.modules (sym holds.modules)) ∙ x
      ∙ ap (λ (M : Module). M.context ++ es) (sym (get_or_at s.ended s.current [] no_module c.modules (sym holds.modules))))

  module _ (fresh : Fresh s) where
    -- outside a module, and directly after its field, the open one is empty
    empty-module : (q : Phase) (n : ℕ) → out_of_order q (begin_module n) ≡ false → EmptyIn q s.current → here s ≡ []
    empty-module outside n e h = h.0
    empty-module begun n e h = never e
    empty-module inside n e h = never e

    empty-extends : (q : Phase) (m : ℕ) (ms : List ℕ) → out_of_order q (extends m ms) ≡ false → EmptyIn q s.current → here s ≡ []
    empty-extends outside m ms e h = never e
    empty-extends begun m ms e h = h.0
    empty-extends inside m ms e h = never e

    -- Each lawful field.
    pub grows-add : (f : Field) → judge s f ≡ none → Holds v' c' (add s f) → Grows v c v' c'
    grows-add (begin_module n) j h =
        let e = empty-module s.phase n (clear-field s (begin_module n) j).0 fresh in
        grows-after (begin_module n) 0 begun [] (record { name = n; context = []; definitions = [] }) [] _ [] [] h refl (sym (append-nil (here s) ∙ e))
    grows-add (extends m ms) j h =
        let e = empty-extends s.phase m ms (clear-field s (extends m ms) j).0 fresh in
        grows-after (extends m ms) 0 inside [] (extended_module s (m ∷ ms)) [] _ [] (extended_context s (m ∷ ms) (here s)) h refl
        (sym (ap (λ (l : Context). l ++ extended_context s (m ∷ ms) (here s)) e))
    grows-add (declare_constant n k) j h =
        grows-after (declare_constant n k) 1 inside [] (with_more s.current (declares n (constant k) s.fields ∷ []) []) [] _ [] (declares n (constant k) s.fields ∷ []) h refl refl
    grows-add (declare_variable n) j h =
        grows-after (declare_variable n) 1 inside [] (with_more s.current (declares n variable s.fields ∷ []) []) [] _ [] (declares n variable s.fields ∷ []) h refl refl
    grows-add (definition n p e) j h =
        let g = length s.definitions in
        grows-after (definition n p e) 0 inside [] (with_more s.current (defines n g ∷ []) (g ∷ [])) (own_one s n p e ∷ []) _ [] (defines n g ∷ []) h refl refl
    grows-add (instance n p m ss) j h =
        let ds = brought_all s n p (source s m) ss in
        grows-after (instance n p m ss) 0 inside [] (with_more s.current (brought_entries s n ds) (numbers_from (length s.definitions) (length ds))) ds _ []
        (brought_entries s n ds) h refl refl
    grows-add end_module j h = grows-after end_module 0 outside (s.current ∷ []) no_module [] s.current (no_module ∷ []) [] h refl (sym (append-nil (here s)))
    grows-add (assume e) j h = grows-after (assume e) 0 inside [] s.current [] s.current [] [] h refl (sym (append-nil (here s)))
    grows-add (theorem e) j h = grows-after (theorem e) 0 inside [] s.current [] s.current [] [] h refl (sym (append-nil (here s)))
