-- What a lookup answers is what the rules find.
use borrow.Author.Tests.{eqb-false, eqb-true, le-ltb, lt-ltb, ltb-false, ltb-true}
use mathlib.Core.Bool.{Bool, ◌&&◌, cond, false, true}
use mathlib.Core.List.{List, [], ◌++◌, ◌∷◌, map}
use mathlib.Core.Option.{Option, none, some}
use mathlib.Core.Path.{◌∙◌, ◌≡◌, ap, ap₂, refl, subst, sym}
use lib.Dec.{eqb, eqb-suc-zero, ltb}
use lib.ListN.{get_or, get_elem?, length}
use lib.Seq.{get_or-append_seam}
use native.Mathlib.Nat.{zero-add}
use native.Mathlib.Omega.{arith}
use Prim.Native.Nat.{◌+◌, ◌-◌, ◌<◌, ◌≤◌, suc, zero, ℕ}
use Rattle.context.specs.Holds.{Holds, module_no}
use Rattle.context.specs.Lookup.{as_code, bringing, brought_at, brought_in, code_named, code_under, operator_at, operator_in, stands_under}
use Rattle.context.specs.Parts.{part, place_of}
use Rattle.context.specs.Entries.{codes_of, entry_at, instance_kind, path_of, variable_kind}
use Rattle.store.specs.Store.{kind_at, via_at}
use Rattle.store.specs.declared.Store.{Store}
use Rattle.store.specs.declared.Facts.{Facts}
use Rattle.limits.specs.Limits.{max_definitions}
use Rattle.rules.specs.State.{Added, Context, Entry, Module, State, declares, defines, definition_at, definition_named, entry_of_name, instance_of, instances, module_named, name_of, no_module, operator_named, operator_of}
use Rattle.theory.specs.Lists.{All, bind_option, find, numbers_from, same_numbers}
use Rattle.theory.specs.Term.{Head, constant, declared, defined, variable}
use Rattle.std.specs.Prelude.{Option as Answer, Some, None}
use Rattle.context.specs.declared.Operator.{Operator}
use Rattle.context.specs.declared.Operator.TheVariants.{Constant, Variable, Defined}
use Rattle.context.specs.declared.Brought.{Brought}
use Rattle.context.specs.declared.Counts.{Counts}

pub cond_cases : {A : Type 0} (P : A → Type 0) (b : Bool) {x y : A} → (b ≡ true → P x) → (b ≡ false → P y) → P (cond b x y)
cond_cases P true f g = f refl
cond_cases P false f g = g refl

-- what an answer means
abbrev pub means : ℕ → Answer Operator → Option Head
means n (Some (Constant o k)) = some (declared (constant k) n)
means n (Some (Variable o)) = some (declared variable n)
means n (Some (Defined g)) = some (defined g)
means n None = none

abbrev pub brings : Answer Brought → Option (List ℕ)
brings (Some b) = some (numbers_from b.first b.count)
brings None = none

abbrev pub code_of : Answer ℕ → Option ℕ
code_of (Some o) = some o
code_of None = none

abbrev Named : ℕ → Entry → Type 0
Named n e = name_of e ≡ n

module _ (names : List ℕ) (facts : List Facts) where
  pub name-at : (o : ℕ) → name_of (entry_at names facts o) ≡ get_or names o 0
  unfolding entry_at
  name-at o =
      cond_cases (Named (get_or names o 0)) (ltb o max_definitions) (λ _. refl) (λ _. cond_cases (Named (get_or names o 0)) (ltb (kind_at facts o) variable_kind) (λ _. refl)
      (λ _. cond_cases (Named (get_or names o 0)) (eqb (kind_at facts o) variable_kind) (λ _. refl) (λ _. refl)))

  abbrev pub entry_of : Option ℕ → Option Entry
  entry_of none = none
  entry_of (some o) = some (entry_at names facts o)

  entry-cond : (b : Bool) (o : ℕ) (x : Option Entry) (z : Option ℕ) → x ≡ entry_of z → cond b (some (entry_at names facts o)) x ≡ entry_of (cond b (some o) z)
  entry-cond true o x z e = refl
  entry-cond false o x z e = e

  -- a name's entry is that of its code
  pub entry_named : (n : ℕ) (cs : List ℕ) → entry_of_name n (map (entry_at names facts) cs) ≡ entry_of (code_named names n cs)
  unfolding code_named
  entry_named n [] = refl
  entry_named n (o ∷ cs) = rw (name-at o) (entry-cond (eqb n (get_or names o 0)) o _ _ (entry_named n cs))

  -- what a search finds passes its test
  pub code-name : (n o : ℕ) (cs : List ℕ) → code_named names n cs ≡ some o → n ≡ get_or names o 0
  unfolding code_named
  code-name n o [] e = absurd (let z : ◌≡◌ {A = ℕ} 0 1 = cc in omega arith)
  code-name n o (x ∷ cs) e = go (eqb n (get_or names x 0)) refl e (λ q. code-name n o cs q)
    where
      go : (b : Bool) → eqb n (get_or names x 0) ≡ b → cond b (some x) (find (λ o. eqb n (get_or names o 0)) cs) ≡ some o
          → (find (λ o. eqb n (get_or names o 0)) cs ≡ some o → n ≡ get_or names o 0) → n ≡ get_or names o 0
      go true p q below = let r : x ≡ o = cc in subst (λ (y : ℕ). n ≡ get_or names y 0) r (eqb-true n (get_or names x 0) p)
      go false p q below = below q

  operator-cases : (n o k f : ℕ) (gs : List ℕ) (a b c : Bool)
      → means n (cond a (Some (Defined o)) (cond b (Some (Constant o k)) (cond c (Some (Variable o)) None)))
      ≡ operator_of (cond a (defines n o) (cond b (declares n (constant k) f) (cond c (declares n variable f) (instances n f gs))))
  operator-cases n o k f gs true b c = refl
  operator-cases n o k f gs false true c = refl
  operator-cases n o k f gs false false true = refl
  operator-cases n o k f gs false false false = refl

  operator-means : (n o : ℕ) → n ≡ get_or names o 0 → means n (operator_at facts o) ≡ operator_of (entry_at names facts o)
  unfolding operator_at entry_at
  operator-means n o e = rw (← e) (operator-cases n o _ _ _ (ltb o max_definitions) (ltb (kind_at facts o) variable_kind) (eqb (kind_at facts o) variable_kind))

  -- the operator of a name
  pub operator-found : (n : ℕ) (cs : List ℕ)
      → means n (operator_in facts (as_code (code_named names n cs))) ≡ bind_option (entry_of_name n (map (entry_at names facts) cs)) operator_of
  unfolding operator_in as_code
  operator-found n cs = rw (entry_named n cs) (go (code_named names n cs) refl)
    where
      go : (r : Option ℕ) → code_named names n cs ≡ r → means n (operator_in facts (as_code r)) ≡ bind_option (entry_of r) operator_of
      go none e = refl
      go (some o) e = operator-means n o (code-name n o cs e)

  brought-cases : (n o k a b f : ℕ) (p : Bool)
      → brings (cond p None (cond (ltb k instance_kind) None (Some (bringing a b))))
      ≡ instance_of (cond p (defines n o) (cond (ltb k variable_kind) (declares n (constant k) f) (cond (eqb k variable_kind) (declares n variable f) (instances n f (numbers_from a b)))))
  brought-cases n o k a b f true = refl
  brought-cases n o k a b f false = go (ltb k variable_kind) refl (eqb k variable_kind) refl
    where
      go : (x : Bool) → ltb k variable_kind ≡ x → (y : Bool) → eqb k variable_kind ≡ y
          → brings (cond (ltb k instance_kind) None (Some (bringing a b))) ≡ instance_of (cond x (declares n (constant k) f) (cond y (declares n variable f) (instances n f (numbers_from a b))))
      go true p y q = let h : k < variable_kind = ltb-true k variable_kind p in rw (lt-ltb k instance_kind (omega arith))
      go false p true q = let h : k ≡ variable_kind = eqb-true k variable_kind q in rw (lt-ltb k instance_kind (omega arith))
      go false p false q =
          let h : variable_kind ≤ k = ltb-false k variable_kind p in
          let l : k ≡ variable_kind → ⊥ = eqb-false k variable_kind q in
          rw (le-ltb k instance_kind (omega arith))

  -- the instance of a name
  pub instance-found : (n : ℕ) (cs : List ℕ)
      → brings (brought_in facts (as_code (code_named names n cs))) ≡ bind_option (entry_of_name n (map (entry_at names facts) cs)) instance_of
  unfolding brought_in as_code brought_at entry_at
  instance-found n cs = rw (entry_named n cs) (go (code_named names n cs))
    where
      go : (r : Option ℕ) → brings (brought_in facts (as_code r)) ≡ bind_option (entry_of r) instance_of
      go none = refl
      go (some o) = brought-cases (get_or names o 0) o (kind_at facts o) _ _ (o - max_definitions) (ltb o max_definitions)

-- where the store shows a state

module _ (v : Store) (c : Counts) (s : State) (holds : Holds v c s) where
  pub current-no : module_no s c.modules ≡ s.current
  current-no = rw holds.modules (get_or-append_seam s.ended s.current [] no_module)

  context-no : (m : ℕ) → m ≤ c.modules → map (entry_at v.names v.facts) (codes_of v m) ≡ (module_no s m).context
  context-no m h = ap (λ (M : Module). M.context) (holds.shown m h)

  pub operator-law : (m n : ℕ) → m ≤ c.modules
      → means n (operator_in v.facts (as_code (code_named v.names n (codes_of v m)))) ≡ operator_named (module_no s m).context n
  operator-law m n h =
      operator-found v.names v.facts n (codes_of v m) ∙ ap (λ (Γ : Context). bind_option (entry_of_name n Γ) operator_of) (context-no m h)

  pub instance-law : (m n : ℕ) → m ≤ c.modules
      → brings (brought_in v.facts (as_code (code_named v.names n (codes_of v m)))) ≡ bind_option (entry_of_name n (module_no s m).context) instance_of
  instance-law m n h =
      instance-found v.names v.facts n (codes_of v m) ∙ ap (λ (Γ : Context). bind_option (entry_of_name n Γ) instance_of) (context-no m h)

  -- I!F, among definitions that are there
  under-path : (i x : ℕ) → 0 < i → eqb i x ≡ same_numbers (i ∷ []) (path_of x)
  under-path zero x h = absurd (omega arith)
  under-path (suc i) zero h = eqb-suc-zero i
  under-path (suc i) (suc x) h = and-true (eqb (suc i) (suc x))
    where
      and-true : (b : Bool) → b ≡ b && true
      and-true true = refl
      and-true false = refl

  stands-law : (i f g : ℕ) → 0 < i → g < length s.definitions
      → stands_under v.names v.facts i f g ≡ same_numbers (i ∷ []) (definition_at s g).path && eqb f (definition_at s g).name
  stands-law i f g p h =
      let q = holds.described g (rw holds.definitions h) in
      ap₂ ◌&&◌ (under-path i (via_at v.facts g) p ∙ ap (λ (d : Added). same_numbers (i ∷ []) d.path) q) (ap (λ (d : Added). eqb f d.name) q)

  pub brought-law : (i f : ℕ) → 0 < i → (gs : List ℕ) → All (λ g. g < length s.definitions) gs → code_under v.names v.facts i f gs ≡ definition_named s gs (i ∷ []) f
  unfolding code_under
  brought-law i f p [] h = refl
  brought-law i f p (g ∷ gs) h = rw (stands-law i f g p h.0, brought-law i f p gs h.1)

  names-shown : (k i : ℕ) (ms : List Module) (rest : List Module) → k ≡ length ms
      → ((j : ℕ) → j < k → get_or v.heads (i + j) 0 ≡ (get_or (ms ++ rest) j no_module).name) → part v.heads i k ≡ map (λ (M : Module). M.name) ms
  unfolding part
  names-shown zero i [] rest e h = refl
  names-shown zero i (M ∷ ms) rest e h = absurd (omega arith)
  names-shown (suc k) i [] rest e h = absurd (omega arith)
  names-shown (suc k) i (M ∷ ms) rest e h =
      ap₂ ◌∷◌ (rw (add-zero' i) at (h 0 (omega arith)))
      (names-shown k (suc i) ms rest (omega arith) (λ j l. let p : suc i + j ≡ i + suc j = omega arith in rw p (h (suc j) (omega arith))))
    where
      add-zero' : (i : ℕ) → i + 0 ≡ i
      add-zero' i = omega arith

-- the module that a place says
pub module-placed : (n : ℕ) (ms : List Module)
    → find (λ (x : Module). eqb n x.name) ms ≡ get_elem? ms (place_of n (map (λ (M : Module). M.name) ms))
unfolding place_of
module-placed n [] = refl
module-placed n (M ∷ ms) = go (eqb n M.name) _ _ (module-placed n ms)
  where
    go : (b : Bool) (x : Option Module) (p : ℕ) → x ≡ get_elem? ms p → cond b (some M) x ≡ get_elem? (M ∷ ms) (cond b 0 (suc p))
    go true x p e = refl
    go false x p e = e

module _ (v : Store) (c : Counts) (s : State) (holds : Holds v c s) where
  pub module-law : (n : ℕ) → module_named s n ≡ get_elem? s.ended (place_of n (part v.heads 0 c.modules))
  module-law n =
      module-placed n s.ended
      ∙ ap (λ (l : List ℕ). get_elem? s.ended (place_of n l))
      (sym (names-shown v c s holds c.modules 0 s.ended (s.current ∷ []) holds.modules
      (λ j l. rw (zero-add j) (ap (λ (M : Module). M.name) (holds.shown j (omega arith))))))
