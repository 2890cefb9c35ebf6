-- What a name means in a module stays: ended modules keep their contexts, the open one's grows at its end, and a code keeps its facts.
use mathlib.Core.Bool.{Bool, ◌&&◌, cond, false, true}
use mathlib.Core.List.{List, [], ◌++◌, ◌∷◌, append-nil}
use mathlib.Core.Option.{Option, none, some}
use mathlib.Core.Path.{◌∙◌, ◌≡◌, ap, ap₂, refl, subst, sym}
use Prim.Native.Nat.{ℕ, ◌+◌, ◌≤◌, ◌<◌}
use native.Mathlib.Decide.{dec_lt}
use native.Mathlib.Omega.{arith}
use lib.Dec.{eqb, leb, ltb}
use lib.ListN.{get_or}
use Rattle.limits.specs.Limits.{max_declarations, max_definitions}
use Rattle.theory.specs.Lists.{All, find}
use Rattle.theory.proofs.Lists.{find-has, map-all, none-some}
use Rattle.rules.specs.State.{State}
use Rattle.context.specs.Holds.{Holds, Known}
use Rattle.context.specs.Lookup.{as_code, code_named, declared_named, declares_name, operator_at, operator_in}
use Rattle.context.specs.Entries.{codes_of, variable_kind}
use Rattle.store.specs.Store.{count_at, first_at, kind_at, link_at, source_at, via_at}
use Rattle.store.specs.declared.Store.{Store}
use Rattle.store.specs.declared.Facts.{Facts}
use Rattle.context.specs.declared.Counts.{Counts}
use Rattle.std.specs.Prelude.{Option as Answer, Some, None}
use Rattle.context.specs.declared.Operator.{Operator}
use Rattle.context.specs.declared.Operator.TheVariants.{Constant, Variable, Defined}
use Rattle.entering.specs.Implied.{implied_ref, number_of, ref_of}
use Rattle.standing.specs.Grows.{Grows, RowsKept}

-- searches
pub find-same : {A : Type 0} (t t' : A → Bool) (xs : List A) → All (λ x. t' x ≡ t x) xs → find t' xs ≡ find t xs
find-same t t' [] h = refl
find-same t t' (x ∷ xs) h = ap₂ (λ (b : Bool) (r : Option _). cond b (some x) r) h.0 (find-same t t' xs h.1)

pub find-more : {A : Type 0} (t : A → Bool) (l r : List A) (a : A) → find t l ≡ some a → find t (l ++ r) ≡ some a
find-more t [] r a e = none-some a e
find-more t (x ∷ l) r a e = at (t x) e (λ k. find-more t l r a k)
  where
    at : (b : Bool) → cond b (some x) (find t l) ≡ some a → (find t l ≡ some a → find t (l ++ r) ≡ some a) → cond b (some x) (find t (l ++ r)) ≡ some a
    at true q below = q
    at false q below = below q

-- codes that were given
pub known-definition : (c : Counts) (D : ℕ) → c.definitions ≤ max_definitions → D < c.definitions → Known c.fields c.definitions D
known-definition c D l h = record { below = omega arith; defined = λ _. h }

pub known-field : (c : Counts) (o : ℕ) → max_definitions ≤ o → o < max_definitions + c.fields → Known c.fields c.definitions o
known-field c o h l = record { below = l; defined = λ (z : o < max_definitions). absurd (omega arith) }

-- what is kept of a code
pub rows_of : {v : Store} {c : Counts} {v' : Store} {c' : Counts} → Grows v c v' c' → RowsKept v c v'
rows_of grows = record { names = grows.names; facts = grows.facts }

module _ (v : Store) (c : Counts) (v' : Store) (rows : RowsKept v c v') (o : ℕ) (known : Known c.fields c.definitions o) where
  pub kind-kept : kind_at v'.facts o ≡ kind_at v.facts o
  kind-kept = ap (λ (f : Facts). f.kind) (rows.facts o known)

  pub first-kept : first_at v'.facts o ≡ first_at v.facts o
  first-kept = ap (λ (f : Facts). f.first) (rows.facts o known)

  pub count_kept : count_at v'.facts o ≡ count_at v.facts o
  count_kept = ap (λ (f : Facts). f.count) (rows.facts o known)

  pub via-kept : via_at v'.facts o ≡ via_at v.facts o
  via-kept = ap (λ (f : Facts). f.via) (rows.facts o known)

  pub source-kept : source_at v'.facts o ≡ source_at v.facts o
  source-kept = ap (λ (f : Facts). f.source) (rows.facts o known)

  pub link-same : link_at v'.facts o ≡ link_at v.facts o
  link-same = ap (λ (f : Facts). f.link) (rows.facts o known)

  -- as a declaration, under a name, and as an operator
  declares-same : (x : ℕ) → declares_name v'.names v'.facts x o ≡ declares_name v.names v.facts x o
  declares-same x = ap₂ (λ (k n : ℕ). leb max_definitions o && leb k variable_kind && eqb x n) kind-kept (rows.names o known)

  number_same : number_of v'.facts o ≡ number_of v.facts o
  unfolding number_of
  number_same =
      ap₂ (λ (k f : ℕ). cond (leb max_definitions o && leb k variable_kind) (cond (ltb f max_declarations) f max_declarations) max_declarations) kind-kept first-kept

  abbrev picks : Bool → Bool → Bool → ℕ → Answer Operator
  picks a b d k = cond a (Some (Defined o)) (cond b (Some (Constant o k)) (cond d (Some (Variable o)) None))

  ref-same : ref_of v'.facts (operator_at v'.facts o) ≡ ref_of v.facts (operator_at v.facts o)
  unfolding operator_at ref_of
  ref-same = ap (λ (k : ℕ). ref_of v'.facts (picks (ltb o max_definitions) (ltb k variable_kind) (eqb k variable_kind) k)) kind-kept
      ∙ go (ltb o max_definitions) (ltb (kind_at v.facts o) variable_kind) (eqb (kind_at v.facts o) variable_kind) (kind_at v.facts o)
    where
      go : (a b d : Bool) (k : ℕ) → ref_of v'.facts (picks a b d k) ≡ ref_of v.facts (picks a b d k)
      go true b d k = refl
      go false true d k = ap (λ (n : ℕ). max_definitions + n) number_same
      go false false true k = ap (λ (n : ℕ). max_definitions + n) number_same
      go false false false k = refl

module _ (v : Store) (c : Counts) (s : State) (v' : Store) (c' : Counts) (holds : Holds v c s) (grows : Grows v c v' c') where
  -- a context keeps its codes, and more may follow
  pub codes-longer : (m : ℕ) → m ≤ c.modules → (rest : List ℕ) × (codes_of v' m ≡ codes_of v m ++ rest)
  codes-longer m l = go (dec_lt m c.modules)
    where
      go : Dec (m < c.modules) → (rest : List ℕ) × (codes_of v' m ≡ codes_of v m ++ rest)
      go (yes h) = ([], grows.contexts m h ∙ sym (append-nil (codes_of v m)))
      go (no h) =
          let e : c.modules ≡ m = omega arith in
          (grows.more, subst (λ (k : ℕ). codes_of v' k ≡ codes_of v k ++ grows.more) e grows.open_context)

  -- a declaration of an ended module, by its name
  pub declared-kept : (q x o : ℕ) → q < c.modules → declared_named v.names v.facts x (codes_of v q) ≡ some o
      → declared_named v'.names v'.facts x (codes_of v' q) ≡ some o
  unfolding declared_named
  declared-kept q x o l e =
      ap (find (declares_name v'.names v'.facts x)) (grows.contexts q l)
      ∙ find-same (declares_name v.names v.facts x) (declares_name v'.names v'.facts x) (codes_of v q)
      (map-all (Known c.fields c.definitions) _ (λ p k. declares-same v c v' (rows_of grows) p k x) (codes_of v q) (holds.known q (omega arith)))
      ∙ e

  pub declared_known : (q x o : ℕ) → q < c.modules → declared_named v.names v.facts x (codes_of v q) ≡ some o → Known c.fields c.definitions o
  unfolding declared_named
  declared_known q x o l e = (find-has (Known c.fields c.definitions) (declares_name v.names v.facts x) (codes_of v q) o (holds.known q (omega arith)) e).0

  -- an operator, by its name
  named-kept : (m x o : ℕ) → m ≤ c.modules → code_named v.names x (codes_of v m) ≡ some o → code_named v'.names x (codes_of v' m) ≡ some o
  unfolding code_named
  named-kept m x o l e =
      let longer = codes-longer m l in
      ap (find (λ p. eqb x (get_or v'.names p 0))) longer.1
      ∙ find-more (λ p. eqb x (get_or v'.names p 0)) (codes_of v m) longer.0 o
      (find-same (λ p. eqb x (get_or v.names p 0)) (λ p. eqb x (get_or v'.names p 0)) (codes_of v m)
      (map-all (Known c.fields c.definitions) _ (λ p k. ap (eqb x) (grows.names p k)) (codes_of v m) (holds.known m l)) ∙ e)

  named-known : (m x o : ℕ) → m ≤ c.modules → code_named v.names x (codes_of v m) ≡ some o → Known c.fields c.definitions o
  unfolding code_named
  named-known m x o l e = (find-has (Known c.fields c.definitions) (λ p. eqb x (get_or v.names p 0)) (codes_of v m) o (holds.known m l) e).0

  -- so what a name implies, if it means something, it means later too
  pub implied-kept : (m x : ℕ) → m ≤ c.modules → implied_ref v.names v.facts v.contexts v.heads m x < max_definitions + max_declarations
      → implied_ref v'.names v'.facts v'.contexts v'.heads m x ≡ implied_ref v.names v.facts v.contexts v.heads m x
  unfolding implied_ref as_code operator_in ref_of
  implied-kept m x l below = go (code_named v.names x (codes_of v m)) refl
    where
      go : (r : Option ℕ) → code_named v.names x (codes_of v m) ≡ r
          → ref_of v'.facts (operator_in v'.facts (as_code (code_named v'.names x (codes_of v' m))))
          ≡ ref_of v.facts (operator_in v.facts (as_code (code_named v.names x (codes_of v m))))
      go none e =
          let z : ref_of v.facts (operator_in v.facts (as_code (code_named v.names x (codes_of v m)))) ≡ max_definitions + max_declarations =
          ap (λ (r : Option ℕ). ref_of v.facts (operator_in v.facts (as_code r))) e in
          absurd (omega arith)
      go (some o) e =
          ap (λ (r : Option ℕ). ref_of v'.facts (operator_in v'.facts (as_code r))) (named-kept m x o l e)
          ∙ ref-same v c v' (rows_of grows) o (named-known m x o l e)
          ∙ sym (ap (λ (r : Option ℕ). ref_of v.facts (operator_in v.facts (as_code r))) e)
