-- The number of a declaration is how many were declared before it: kept by every field, and right for every declared name of a context.
use borrow.Author.Tests.{ltb-false, ltb-true}
use mathlib.Core.Bool.{Bool, false, true}
use mathlib.Core.List.{List, [], ◌++◌, ◌∷◌, append-nil}
use mathlib.Core.Option.{Option, none, some}
use mathlib.Core.Path.{◌∙◌, ◌≡◌, ap, refl, subst, sym}
use Prim.Native.Nat.{ℕ, zero, suc, ◌+◌, ◌<◌, ◌≤◌}
use native.Mathlib.Omega.{arith}
use lib.Dec.{ltb}
use lib.ListN.{get_or-append, get_or, length, length-append, set, take}
use lib.Seq.{get_or-append_seam}
use Rattle.limits.specs.Limits.{max_declarations, max_definitions}
use Rattle.limits.specs.Sizes.{code_count, max_fields}
use Rattle.theory.specs.Lists.{All, ◌∷?◌, collect}
use Rattle.theory.specs.Term.{Kind}
use Rattle.theory.proofs.Lists.{append-all, at_all, map-all, none-some}
use Rattle.rules.specs.Field.{Field, end_module}
use Rattle.rules.specs.State.{Entry, Module, State, declares, defines, instances, no_module}
use Rattle.laws.proofs.Invariant.{EntryKnown, Good, ModuleKnown}
use Rattle.laws.proofs.Origins.{Faithful, Origins, declaration}
use Rattle.texts.specs.Text.{Declarations, no_declaration}
use Rattle.context.specs.Holds.{module_no}
use Rattle.context.specs.Entries.{after_declaration, declaration_row, field_code}
use Rattle.store.specs.Store.{first_at}
use Rattle.context.specs.declared.Counts.{Counts}
use Rattle.store.specs.declared.Facts.{Facts}
use Rattle.context.proofs.Change.{fact-other, fact-same}
use Rattle.resolve.specs.Meaning.{Numbered}

-- the declarations of the fields read so far, in their order
abbrev pub declarations_of : List Field → Declarations
declarations_of fs = collect declaration fs

-- how many stand before a field
abbrev pub declared_before : List Field → ℕ → ℕ
declared_before fs f = length (declarations_of (take f fs))

-- The facts of each CONSTANT or VARIABLE field hold its number.
pub record Declares (facts : List Facts) (c : Counts) (fs : List Field) : Type 0 where
  pub counted : c.declarations ≡ length (declarations_of fs)
  pub few : c.declarations ≤ max_declarations
  pub numbers : (f : ℕ) → f < length fs → (d : Kind × ℕ) → declaration (get_or fs f end_module) ≡ some d → first_at facts (field_code f) ≡ declared_before fs f

pub no-declarations : (facts : List Facts) (c : Counts) → c.declarations ≡ 0 → Declares facts c []
no-declarations facts c e = record { counted = e; few = omega arith; numbers = λ f h d q. absurd (omega arith) }

-- a declaration stands in the list at the number of those before it
pub declared-there : (fs : List Field) (f : ℕ) (d : Kind × ℕ) → f < length fs → declaration (get_or fs f end_module) ≡ some d
    → (declared_before fs f < length (declarations_of fs)) × (get_or (declarations_of fs) (declared_before fs f) no_declaration ≡ d)
declared-there [] f d h e = absurd (omega arith)
declared-there (x ∷ fs) zero d h e = rw e (omega arith, refl)
declared-there (x ∷ fs) (suc f) d h e = go (declaration x) (declared-there fs f d (omega arith) e)
  where
    go : (o : Option (Kind × ℕ)) → (declared_before fs f < length (declarations_of fs)) × (get_or (declarations_of fs) (declared_before fs f) no_declaration ≡ d)
        → (length (◌∷?◌ o (declarations_of (take f fs))) < length (◌∷?◌ o (declarations_of fs)))
        × (get_or (◌∷?◌ o (declarations_of fs)) (length (◌∷?◌ o (declarations_of (take f fs)))) no_declaration ≡ d)
    go none q = q
    go (some y) q = (omega (arith, q.0), q.1)

-- one field more
collect-more : (fs : List Field) (f : Field) → declarations_of (fs ++ (f ∷ [])) ≡ declarations_of fs ++ ◌∷?◌ (declaration f) []
collect-more [] f = refl
collect-more (x ∷ fs) f = go (declaration x) (collect-more fs f)
  where
    go : (o : Option (Kind × ℕ)) → declarations_of (fs ++ (f ∷ [])) ≡ declarations_of fs ++ ◌∷?◌ (declaration f) []
        → ◌∷?◌ o (declarations_of (fs ++ (f ∷ []))) ≡ ◌∷?◌ o (declarations_of fs) ++ ◌∷?◌ (declaration f) []
    go none e = e
    go (some y) e = ap (◌∷◌ y) e

take_more : (fs gs : List Field) (i : ℕ) → i ≤ length fs → take i (fs ++ gs) ≡ take i fs
take_more fs gs zero h = refl
take_more [] gs (suc i) h = absurd (omega arith)
take_more (x ∷ fs) gs (suc i) h = ap (◌∷◌ x) (take_more fs gs i (omega arith))

take_whole : (fs gs : List Field) → take (length fs) (fs ++ gs) ≡ fs
take_whole [] gs = refl
take_whole (x ∷ fs) gs = ap (◌∷◌ x) (take_whole fs gs)

module _ (facts facts' : List Facts) (c c' : Counts) (fs : List Field) (f : Field) (h : Declares facts c fs)
    (keeps : (i : ℕ) → i < length fs → first_at facts' (field_code i) ≡ first_at facts (field_code i)) where
  old : (i : ℕ) → i < length fs → (d : Kind × ℕ) → declaration (get_or (fs ++ (f ∷ [])) i end_module) ≡ some d
      → first_at facts' (field_code i) ≡ declared_before (fs ++ (f ∷ [])) i
  old i l d e =
      keeps i l ∙ h.numbers i l d (sym (ap declaration (get_or-append fs (f ∷ []) end_module i l)) ∙ e)
      ∙ ap (λ (gs : List Field). length (declarations_of gs)) (sym (take_more fs (f ∷ []) i (omega arith)))

  last : declaration (get_or (fs ++ (f ∷ [])) (length fs) end_module) ≡ declaration f
  last = ap declaration (get_or-append_seam fs f [] end_module)

  -- a number for each old field and for the new one
  each : (P : ℕ → Type 0) → ((i : ℕ) → i < length fs → P i) → P (length fs) → (i : ℕ) → i < length (fs ++ (f ∷ [])) → P i
  each P a b i l = go (ltb i (length fs)) refl
    where
      go : (t : Bool) → ltb i (length fs) ≡ t → P i
      go true e = a i (ltb-true i (length fs) e)
      go false e =
          let n : length fs ≤ i = ltb-false i (length fs) e in
          let m : length (fs ++ (f ∷ [])) ≡ length fs + 1 = length-append fs (f ∷ []) in
          let q : length fs ≡ i = omega arith in
          subst P q b

  Right : ℕ → Type 0
  Right i = (d : Kind × ℕ) → declaration (get_or (fs ++ (f ∷ [])) i end_module) ≡ some d → first_at facts' (field_code i) ≡ declared_before (fs ++ (f ∷ [])) i

  -- a field that declares nothing
  pub declares-other : declaration f ≡ none → c'.declarations ≡ c.declarations → Declares facts' c' (fs ++ (f ∷ []))
  unfolding Right
  declares-other e q = record {
    counted = q ∙ h.counted ∙ sym (rw (collect-more fs f, e, append-nil (declarations_of fs)));
    few = omega (arith, h.few);
    numbers = each Right old (λ d p. none-some d (sym e ∙ sym last ∙ p));
  }

  -- a field that declares a name
  pub declares-one : (d : Kind × ℕ) → declaration f ≡ some d → c'.declarations ≡ c.declarations + 1 → c.declarations < max_declarations
      → first_at facts' (field_code (length fs)) ≡ c.declarations → Declares facts' c' (fs ++ (f ∷ []))
  unfolding Right
  declares-one d e q l n = record {
    counted = q ∙ ap (λ (k : ℕ). k + 1) h.counted ∙ sym (rw (collect-more fs f, e) (length-append (declarations_of fs) (d ∷ [])));
    few = omega arith;
    numbers = each Right old (λ y p. n ∙ h.counted ∙ ap (λ (gs : List Field). length (declarations_of gs)) (sym (take_whole fs (f ∷ []))));
  }

-- what is stored of another code changes no number
pub stored-keeps : (facts : List Facts) (o : ℕ) (r : Facts) (i : ℕ) → (o ≡ field_code i → ⊥) → first_at (set facts o r) (field_code i) ≡ first_at facts (field_code i)
stored-keeps facts o r i n =
    ap (λ (f : Facts). f.first) (fact-other facts o r (field_code i) (λ (e : field_code i ≡ o). n (sym e)))

-- Each field of a file: CONSTANT and VARIABLE as `add_declaration` leaves the facts,
pub declares-declaration : (facts : List Facts) (c : Counts) (fs : List Field) (f : Field) (d : Kind × ℕ) (kind : ℕ) → Declares facts c fs → declaration f ≡ some d
    → c.fields ≡ length fs → c.fields < max_fields → c.declarations < max_declarations → length facts ≡ code_count
    → Declares (set facts (field_code c.fields) (declaration_row kind c.declarations)) (after_declaration c) (fs ++ (f ∷ []))
declares-declaration facts c fs f d kind h e q room few size =
    declares-one facts (set facts (field_code c.fields) (declaration_row kind c.declarations)) c (after_declaration c) fs f h
    (λ i l. stored-keeps facts (field_code c.fields) (declaration_row kind c.declarations) i (λ (z : field_code c.fields ≡ field_code i). omega arith)) d e refl few
    (ap (λ (i : ℕ). first_at (set facts (field_code c.fields) (declaration_row kind c.declarations)) (field_code i)) (sym q)
    ∙ ap (λ (f : Facts). f.first) (fact-same facts (field_code c.fields) (declaration_row kind c.declarations) (omega arith)))

-- a definition, stored at its number,
pub declares-definition : (facts : List Facts) (c c' : Counts) (fs : List Field) (f : Field) (g : ℕ) (r : Facts) → Declares facts c fs → declaration f ≡ none
    → c'.declarations ≡ c.declarations → g < max_definitions → Declares (set facts g r) c' (fs ++ (f ∷ []))
declares-definition facts c c' fs f g r h e q l =
    declares-other facts (set facts g r) c c' fs f h (λ i _. stored-keeps facts g r i (λ (z : g ≡ field_code i). omega arith)) e q

-- and a field that stores nothing.
pub declares-same : (facts : List Facts) (c c' : Counts) (fs : List Field) (f : Field) → Declares facts c fs → declaration f ≡ none → c'.declarations ≡ c.declarations
    → Declares facts c' (fs ++ (f ∷ []))
declares-same facts c c' fs f h e q = declares-other facts facts c c' fs f h (λ i _. refl) e q

-- a store inside a field, at a definition's number or at the field's own code, before the field is counted
pub declares-stored : (facts : List Facts) (c c' : Counts) (fs : List Field) (o : ℕ) (r : Facts) → Declares facts c fs → c'.declarations ≡ c.declarations
    → ((i : ℕ) → i < length fs → o ≡ field_code i → ⊥) → Declares (set facts o r) c' fs
declares-stored facts c c' fs o r h q out = record {
  counted = q ∙ h.counted;
  few = omega (arith, h.few);
  numbers = λ f l d e. stored-keeps facts o r f (out f l) ∙ h.numbers f l d e;
}

-- Every declared name of a context has its number.
numbered-entry : (facts : List Facts) (c : Counts) (fs : List Field) → Declares facts c fs → (e : Entry) → Faithful fs e → Numbered facts (declarations_of fs) e
numbered-entry facts c fs h (declares x k f) (l, p) =
    let n : first_at facts (field_code f) ≡ declared_before fs f = h.numbers f l (k, x) p in
    let t = declared-there fs f (k, x) l p in
    (omega (arith, t.0), ap (λ (i : ℕ). get_or (declarations_of fs) i no_declaration) n ∙ t.1)
numbered-entry facts c fs h (defines x g) w = tt
numbered-entry facts c fs h (instances x f gs) w = tt

pub few-declarations : (facts : List Facts) (c : Counts) (fs : List Field) → Declares facts c fs → length (declarations_of fs) ≤ max_declarations
few-declarations facts c fs h = omega (arith, h.counted, h.few)

module _ (s : State) (m : ℕ) (there : m ≤ length s.ended) where
  inside : m < length (s.ended ++ (s.current ∷ []))
  inside = let l : length (s.ended ++ (s.current ∷ [])) ≡ length s.ended + 1 = length-append s.ended (s.current ∷ []) in omega arith

  pub numbered-context : (facts : List Facts) (c : Counts) (fs : List Field) → Declares facts c fs → Origins fs s → All (Numbered facts (declarations_of fs)) (module_no s m).context
  numbered-context facts c fs h o =
      map-all (Faithful fs) (Numbered facts (declarations_of fs)) (numbered-entry facts c fs h) (module_no s m).context
      (at_all (λ (M : Module). All (Faithful fs) M.context) (s.ended ++ (s.current ∷ [])) m no_module
      (append-all (λ (M : Module). All (Faithful fs) M.context) s.ended (s.current ∷ []) o.ended (o.current, tt)) inside)

  pub known-context : Good s → All (EntryKnown (length s.definitions)) (module_no s m).context
  known-context g =
      (at_all (ModuleKnown (length s.definitions)) (s.ended ++ (s.current ∷ [])) m no_module
      (append-all (ModuleKnown (length s.definitions)) s.ended (s.current ∷ []) g.ended (g.current, tt)) inside).0
