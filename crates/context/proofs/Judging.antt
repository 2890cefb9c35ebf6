-- The causes of refusal that are facts of contexts, as facts of codes.
use borrow.Author.Tests.{eqb-false, eqb-true, le-leb, le-ltb, leb-true, lt-leb, lt-ltb, ltb-false, ltb-true, ne_eqb}
use mathlib.Core.Bool.{Bool, ◌&&◌, ◌||◌, cond, false, true}
use mathlib.Core.List.{List, [], ◌∷◌, map}
use mathlib.Core.Option.{Option, none, some}
use mathlib.Core.Path.{◌∙◌, ◌≡◌, ap, ap₂, refl, sym}
use lib.Dec.{T, eqb, leb, ltb}
use lib.ListN.{get_or}
use native.Mathlib.Omega.{arith}
use Prim.Native.Nat.{◌-◌, ◌<◌, ◌≤◌, ℕ}
use Rattle.context.proofs.Extends.{repeats-law}
use Rattle.context.proofs.Lookups.{cond_cases, current-no, entry_named, entry_of}
use Rattle.context.specs.Holds.{Holds, module_no}
use Rattle.context.specs.Lookup.{as_code, code_named, declared_named, declares_name, defines_name_in, definition_among, instance_among, is_declared, is_instance, operator_at, operator_in, repeated_in}
use Rattle.context.specs.Entries.{codes_of, entry_at, instance_kind, variable_kind}
use Rattle.store.specs.Store.{count_at, first_at, kind_at}
use Rattle.store.specs.declared.Store.{Store}
use Rattle.store.specs.declared.Facts.{Facts}
use Rattle.limits.specs.Limits.{max_definitions}
use Rattle.rules.specs.Instance.{arity_in, declared_in, declared_of, kind_in}
use Rattle.rules.specs.Judge.{defined_name, has_named_instance, instance_clashes}
use Rattle.rules.specs.State.{Context, Entry, Module, State, declares, defines, here, in_context, instance_of, instances, same_name}
use Rattle.theory.proofs.Lists.{find-has, never}
use Rattle.theory.specs.Lists.{All, ◌∷?◌, any, bind_option, collect, find, is_some, map_option, numbers_from, or_else, repeats}
use Rattle.theory.specs.Term.{Kind, constant, kind_arity, variable}
use Rattle.std.specs.Prelude.{Option as Answer, Some, None}
use Rattle.context.specs.declared.Operator.{Operator}
use Rattle.context.specs.declared.Operator.TheVariants.{Constant, Variable, Defined}
use Rattle.context.specs.declared.Counts.{Counts}

-- laws of `map` over a list
module _ {A B : Type 0} (f : A → B) where
  pub any-map : (t : B → Bool) (xs : List A) → any t (map f xs) ≡ any (λ a. t (f a)) xs
  any-map t [] = refl
  any-map t (x ∷ xs) = ap (◌||◌ (t (f x))) (any-map t xs)

  pub find-map : (t : B → Bool) (xs : List A) → find t (map f xs) ≡ map_option f (find (λ a. t (f a)) xs)
  find-map t [] = refl
  find-map t (x ∷ xs) = go (t (f x)) (find-map t xs)
    where
      go : (b : Bool) → find t (map f xs) ≡ map_option f (find (λ a. t (f a)) xs) → cond b (some (f x)) (find t (map f xs)) ≡ map_option f (cond b (some x) (find (λ a. t (f a)) xs))
      go true e = refl
      go false e = e

  pub collect-map : {C : Type 0} (g : B → Option C) (xs : List A) → collect g (map f xs) ≡ collect (λ a. g (f a)) xs
  collect-map g [] = refl
  collect-map g (x ∷ xs) = ap (◌∷?◌ (g (f x))) (collect-map g xs)

-- what is collected, tested
abbrev pub tested : {A : Type 0} → (A → Bool) → Option A → Bool
tested t none = false
tested t (some a) = t a

module _ {A B : Type 0} (f : A → Option B) (t : B → Bool) where
  pub any-collect : (xs : List A) → any t (collect f xs) ≡ any (λ a. tested t (f a)) xs
  any-collect [] = refl
  any-collect (x ∷ xs) = go (f x) (any-collect xs)
    where
      go : (r : Option B) → any t (collect f xs) ≡ any (λ a. tested t (f a)) xs → any t (◌∷?◌ r (collect f xs)) ≡ tested t r || any (λ a. tested t (f a)) xs
      go none e = e
      go (some b) e = ap (◌||◌ (t b)) e

  pub find-collect : (xs : List A) → find t (collect f xs) ≡ bind_option (find (λ a. tested t (f a)) xs) f
  find-collect [] = refl
  find-collect (x ∷ xs) = go (f x) refl (find-collect xs)
    where
      go : (r : Option B) → f x ≡ r → find t (collect f xs) ≡ bind_option (find (λ a. tested t (f a)) xs) f
          → find t (◌∷?◌ r (collect f xs)) ≡ bind_option (cond (tested t r) (some x) (find (λ a. tested t (f a)) xs)) f
      go none p e = e
      go (some b) p e = this (t b) e
        where
          this : (y : Bool) → find t (collect f xs) ≡ bind_option (find (λ a. tested t (f a)) xs) f
              → cond y (some b) (find t (collect f xs)) ≡ bind_option (cond y (some x) (find (λ a. tested t (f a)) xs)) f
          this true q = sym p
          this false q = q

pub any-each : {A : Type 0} (t u : A → Bool) → ((a : A) → t a ≡ u a) → (xs : List A) → any t xs ≡ any u xs
any-each t u e [] = refl
any-each t u e (x ∷ xs) = ap₂ ◌||◌ (e x) (any-each t u e xs)

pub find-each : {A : Type 0} (t u : A → Bool) → ((a : A) → t a ≡ u a) → (xs : List A) → find t xs ≡ find u xs
find-each t u e [] = refl
find-each t u e (x ∷ xs) = ap₂ (λ (b : Bool) (r : Option _). cond b (some x) r) (e x) (find-each t u e xs)

-- what a code declares: a kind and a name
abbrev pub kind_of : ℕ → Kind
kind_of k = cond (eqb k variable_kind) variable (constant k)

abbrev pub declaration_at : List ℕ → List Facts → ℕ → Option (Kind × ℕ)
declaration_at names facts o = cond (is_declared facts o) (some (kind_of (kind_at facts o), get_or names o 0)) none

-- the kind that an answer of find_declared says
abbrev pub kind_answered : Answer Operator → Option Kind
kind_answered (Some (Constant o k)) = some (constant k)
kind_answered (Some (Variable o)) = some variable
kind_answered (Some (Defined g)) = none
kind_answered None = none

module _ (names : List ℕ) (facts : List Facts) where
  -- the four ways that a code is read: a definition, a constant, a variable, an instance
  module _ {X : Type 0} (o : ℕ) (on_entry : Entry → X) (on_code : X)
      (defined : o < max_definitions → on_entry (defines (get_or names o 0) o) ≡ on_code)
      (is_constant : max_definitions ≤ o → kind_at facts o < variable_kind → on_entry (declares (get_or names o 0) (constant (kind_at facts o)) (o - max_definitions)) ≡ on_code)
      (is_variable : max_definitions ≤ o → kind_at facts o ≡ variable_kind → on_entry (declares (get_or names o 0) variable (o - max_definitions)) ≡ on_code)
      (instanced : max_definitions ≤ o → instance_kind ≤ kind_at facts o → on_entry (instances (get_or names o 0) (o - max_definitions) (numbers_from (first_at facts o) (count_at facts o))) ≡ on_code) where
    pub by-entry : on_entry (entry_at names facts o) ≡ on_code
    unfolding entry_at
    by-entry =
        cond_cases (λ (e : Entry). on_entry e ≡ on_code) (ltb o max_definitions) (λ e. defined (ltb-true o max_definitions e))
        (λ e. cond_cases (λ (e : Entry). on_entry e ≡ on_code) (ltb (kind_at facts o) variable_kind)
        (λ l. is_constant (ltb-false o max_definitions e) (ltb-true (kind_at facts o) variable_kind l))
        (λ l. cond_cases (λ (e : Entry). on_entry e ≡ on_code) (eqb (kind_at facts o) variable_kind)
        (λ q. is_variable (ltb-false o max_definitions e) (eqb-true (kind_at facts o) variable_kind q))
        (λ q. instanced (ltb-false o max_definitions e) (above (ltb-false (kind_at facts o) variable_kind l) (eqb-false (kind_at facts o) variable_kind q)))))
      where
        above : {k : ℕ} → variable_kind ≤ k → (k ≡ variable_kind → ⊥) → instance_kind ≤ k
        above h n = omega arith

  pub declared-at : (o : ℕ) → declared_of (entry_at names facts o) ≡ declaration_at names facts o
  declared-at o =
      by-entry o declared_of (declaration_at names facts o) (λ h. rw (lt-leb max_definitions o h) refl)
      (λ h l. rw (le-leb max_definitions o h, le-leb (kind_at facts o) variable_kind (omega arith), ne_eqb (kind_at facts o) variable_kind (λ (z : kind_at facts o ≡ variable_kind). omega arith)) refl)
      (λ h l. rw (le-leb max_definitions o h, l) refl)
      (λ h l. rw (le-leb max_definitions o h, lt-leb (kind_at facts o) variable_kind (omega arith)) refl)

  pub instance-at : (o : ℕ) → is_some (instance_of (entry_at names facts o)) ≡ is_instance facts o
  instance-at o =
      by-entry o (λ (e : Entry). is_some (instance_of e)) (is_instance facts o) (λ h. rw (lt-leb max_definitions o h) refl)
      (λ h l. rw (le-leb max_definitions o h, lt-leb instance_kind (kind_at facts o) (omega arith)) refl)
      (λ h l. rw (le-leb max_definitions o h, l) refl)
      (λ h l. rw (le-leb max_definitions o h, le-leb instance_kind (kind_at facts o) l) refl)

  pub defined-at : (t : ℕ → Bool) (o : ℕ) → tested t (defined_name (entry_at names facts o)) ≡ ltb o max_definitions && t (get_or names o 0)
  defined-at t o =
      by-entry o (λ (e : Entry). tested t (defined_name e)) (ltb o max_definitions && t (get_or names o 0)) (λ h. rw (lt-ltb o max_definitions h) refl)
      (λ h l. rw (le-ltb o max_definitions h) refl) (λ h l. rw (le-ltb o max_definitions h) refl) (λ h l. rw (le-ltb o max_definitions h) refl)

  -- a module's declarations, as codes
  pub declared-codes : (cs : List ℕ) → collect declared_of (map (entry_at names facts) cs) ≡ collect (declaration_at names facts) cs
  declared-codes cs = collect-map (entry_at names facts) declared_of cs ∙ go cs
    where
      go : (cs : List ℕ) → collect (λ o. declared_of (entry_at names facts o)) cs ≡ collect (declaration_at names facts) cs
      go [] = refl
      go (o ∷ cs) = ap₂ (λ (r : Option (Kind × ℕ)) (l : List (Kind × ℕ)). ◌∷?◌ r l) (declared-at o) (go cs)

  -- a test of all that is declared, as a test of codes
  pub any-declared : (t : Kind × ℕ → Bool) (cs : List ℕ)
      → any t (collect declared_of (map (entry_at names facts) cs)) ≡ any (λ o. is_declared facts o && t (kind_of (kind_at facts o), get_or names o 0)) cs
  any-declared t cs =
      ap (any t) (declared-codes cs) ∙ any-collect (declaration_at names facts) t cs
      ∙ any-each (λ o. tested t (declaration_at names facts o)) (λ o. is_declared facts o && t (kind_of (kind_at facts o), get_or names o 0)) (λ o. go (is_declared facts o) o) cs
    where
      go : (b : Bool) (o : ℕ) → tested t (cond b (some (kind_of (kind_at facts o), get_or names o 0)) none) ≡ b && t (kind_of (kind_at facts o), get_or names o 0)
      go true o = refl
      go false o = refl

  -- what a name is declared as
  kind-answered : (o : ℕ) → is_declared facts o ≡ true → map_option (λ d. d.0) (declaration_at names facts o) ≡ kind_answered (operator_at facts o)
  unfolding operator_at
  kind-answered o e = rw e (go (ltb o max_definitions) refl (ltb (kind_at facts o) variable_kind) refl (eqb (kind_at facts o) variable_kind) refl)
    where
      both : (leb max_definitions o ≡ true) × (leb (kind_at facts o) variable_kind ≡ true)
      both = parts (leb max_definitions o) (leb (kind_at facts o) variable_kind) e
        where
          parts : (a b : Bool) → a && b ≡ true → (a ≡ true) × (b ≡ true)
          parts true b q = (refl, q)
          parts false b q = never (sym q)

      go : (a : Bool) → ltb o max_definitions ≡ a → (b : Bool) → ltb (kind_at facts o) variable_kind ≡ b → (c : Bool) → eqb (kind_at facts o) variable_kind ≡ c
          → some (cond c variable (constant (kind_at facts o))) ≡ kind_answered (cond a (Some (Defined o)) (cond b (Some (Constant o (kind_at facts o))) (cond c (Some (Variable o)) None)))
      go true p b q c r = absurd (omega (arith, ltb-true o max_definitions p, leb-true max_definitions o both.0))
      go false p true q true r = absurd (omega (arith, ltb-true (kind_at facts o) variable_kind q, eqb-true (kind_at facts o) variable_kind r))
      go false p true q false r = refl
      go false p false q true r = refl
      go false p false q false r =
          let l : kind_at facts o ≤ variable_kind = leb-true (kind_at facts o) variable_kind both.1 in
          let m : variable_kind ≤ kind_at facts o = ltb-false (kind_at facts o) variable_kind q in
          absurd (eqb-false (kind_at facts o) variable_kind r (omega arith))

  declares-tested : (n o : ℕ) → tested (λ (d : Kind × ℕ). eqb n d.1) (declaration_at names facts o) ≡ declares_name names facts n o
  declares-tested n o = go (is_declared facts o)
    where
      go : (b : Bool) → tested (λ (d : Kind × ℕ). eqb n d.1) (cond b (some (kind_of (kind_at facts o), get_or names o 0)) none) ≡ b && eqb n (get_or names o 0)
      go true = refl
      go false = refl

  pub kind-found : (n : ℕ) (cs : List ℕ)
      → map_option (λ d. d.0) (find (λ (d : Kind × ℕ). eqb n d.1) (collect declared_of (map (entry_at names facts) cs)))
      ≡ kind_answered (operator_in facts (as_code (declared_named names facts n cs)))
  unfolding operator_in as_code declared_named
  kind-found n cs =
      ap (λ (l : List (Kind × ℕ)). map_option (λ d. d.0) (find (λ (d : Kind × ℕ). eqb n d.1) l)) (declared-codes cs)
      ∙ ap (map_option (λ d. d.0)) (find-collect (declaration_at names facts) (λ (d : Kind × ℕ). eqb n d.1) cs
      ∙ ap (λ (r : Option ℕ). bind_option r (declaration_at names facts)) (find-each _ (declares_name names facts n) (declares-tested n) cs))
      ∙ go (find (declares_name names facts n) cs) refl
    where
      go : (r : Option ℕ) → find (declares_name names facts n) cs ≡ r → map_option (λ d. d.0) (bind_option r (declaration_at names facts)) ≡ kind_answered (operator_in facts (as_code r))
      go none e = refl
      go (some o) e = kind-answered o (passes (is_declared facts o) (eqb n (get_or names o 0)) (find-has (λ o. Unit {0}) (declares_name names facts n) cs o (all-unit cs) e).1)
        where
          passes : (a b : Bool) → T (a && b) → a ≡ true
          passes true b t = refl
          passes false b t = absurd t

          all-unit : (xs : List ℕ) → All (λ o. Unit {0}) xs
          all-unit [] = tt
          all-unit (x ∷ xs) = (tt, all-unit xs)

  pub instances-among : (cs : List ℕ) → any (λ e. is_some (instance_of e)) (map (entry_at names facts) cs) ≡ instance_among facts cs
  unfolding instance_among
  instances-among cs = any-map (entry_at names facts) (λ e. is_some (instance_of e)) cs ∙ any-each _ (is_instance facts) instance-at cs

  pub in-context : (n : ℕ) (cs : List ℕ) → in_context n (map (entry_at names facts) cs) ≡ is_some (code_named names n cs)
  in-context n cs = ap is_some (entry_named names facts n cs) ∙ go (code_named names n cs)
    where
      go : (r : Option ℕ) → is_some (entry_of names facts r) ≡ is_some r
      go none = refl
      go (some o) = refl

  pub definitions-among : (ds cs : List ℕ)
      → any (λ x. in_context x (map (entry_at names facts) ds)) (collect defined_name (map (entry_at names facts) cs)) ≡ definition_among names ds cs
  unfolding definition_among
  definitions-among ds cs =
      ap (any (λ x. in_context x (map (entry_at names facts) ds))) (collect-map (entry_at names facts) defined_name cs)
      ∙ any-collect (λ o. defined_name (entry_at names facts o)) (λ x. in_context x (map (entry_at names facts) ds)) cs
      ∙ any-each _ (defines_name_in names ds)
      (λ o. defined-at (λ x. in_context x (map (entry_at names facts) ds)) o ∙ ap (λ (b : Bool). ltb o max_definitions && b) (in-context (get_or names o 0) ds)) cs

-- where the store shows a state

module _ (v : Store) (c : Counts) (s : State) (holds : Holds v c s) where
  context-shown : (m : ℕ) → m ≤ c.modules → map (entry_at v.names v.facts) (codes_of v m) ≡ (module_no s m).context
  context-shown m h = ap (λ (M : Module). M.context) (holds.shown m h)

  here-shown : map (entry_at v.names v.facts) (codes_of v c.modules) ≡ here s
  here-shown = context-shown c.modules (omega arith) ∙ ap (λ (M : Module). M.context) (current-no v c s holds)

  -- 8: a name is in the context of a module
  pub context-law : (m n : ℕ) → m ≤ c.modules → is_some (code_named v.names n (codes_of v m)) ≡ in_context n (module_no s m).context
  context-law m n h = sym (in-context v.names v.facts n (codes_of v m)) ∙ ap (in_context n) (context-shown m h)

  pub here-law : (n : ℕ) → is_some (code_named v.names n (codes_of v c.modules)) ≡ in_context n (here s)
  here-law n = sym (in-context v.names v.facts n (codes_of v c.modules)) ∙ ap (in_context n) here-shown

  -- 8, at an unnamed instance of module q
  pub clash-law : (q : ℕ) → q ≤ c.modules → definition_among v.names (codes_of v c.modules) (codes_of v q) ≡ instance_clashes s 0 (module_no s q)
  clash-law q h =
      sym (definitions-among v.names v.facts (codes_of v c.modules) (codes_of v q))
      ∙ ap₂ (λ (Γ Δ : Context). any (λ x. in_context x Γ) (collect defined_name Δ)) here-shown (context-shown q h)

  -- 8, at EXTENDS
  pub repeated-law : (m : ℕ) → m ≤ c.modules → repeated_in v.names (codes_of v m) ≡ repeats same_name (module_no s m).context
  repeated-law m h = sym (repeats-law v.names v.facts (codes_of v m)) ∙ ap (repeats same_name) (context-shown m h)

  -- 16
  pub named-instance-law : (m : ℕ) → m ≤ c.modules → instance_among v.facts (codes_of v m) ≡ has_named_instance (module_no s m)
  named-instance-law m h = sym (instances-among v.names v.facts (codes_of v m)) ∙ ap (any (λ e. is_some (instance_of e))) (context-shown m h)

  -- what a module declares: a test of all of it, and what a name is declared as
  pub declared-law : (m : ℕ) → m ≤ c.modules → collect (declaration_at v.names v.facts) (codes_of v m) ≡ declared_in (module_no s m)
  declared-law m h = sym (declared-codes v.names v.facts (codes_of v m)) ∙ ap (collect declared_of) (context-shown m h)

  pub any-declared-law : (t : Kind × ℕ → Bool) (m : ℕ) → m ≤ c.modules
      → any (λ o. is_declared v.facts o && t (kind_of (kind_at v.facts o), get_or v.names o 0)) (codes_of v m) ≡ any t (declared_in (module_no s m))
  any-declared-law t m h = sym (any-declared v.names v.facts t (codes_of v m)) ∙ ap (λ (Γ : Context). any t (collect declared_of Γ)) (context-shown m h)

  pub kind-law : (m n : ℕ) → m ≤ c.modules
      → kind_answered (operator_in v.facts (as_code (declared_named v.names v.facts n (codes_of v m)))) ≡ kind_in (module_no s m) n
  kind-law m n h =
      sym (kind-found v.names v.facts n (codes_of v m))
      ∙ ap (λ (Γ : Context). map_option (λ d. d.0) (find (λ (d : Kind × ℕ). eqb n d.1) (collect declared_of Γ))) (context-shown m h)

  pub arity-law : (m n : ℕ) → m ≤ c.modules
      → or_else 0 (map_option kind_arity (kind_answered (operator_in v.facts (as_code (declared_named v.names v.facts n (codes_of v m)))))) ≡ arity_in (module_no s m) n
  arity-law m n h = ap (λ (k : Option Kind). or_else 0 (map_option kind_arity k)) (kind-law m n h)
