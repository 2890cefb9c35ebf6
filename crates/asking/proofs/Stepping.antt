-- What a token says: one lemma for each way through the code, with the facts that the code has there as premises.
use mathlib.Core.Bool.{Bool, cond, false, true, ◌||◌}
use mathlib.Core.List.{List, [], ◌∷◌, map}
use Rattle.std.specs.Prelude.{Option, None, Some}
use mathlib.Core.Path.{◌∙◌, ◌≡◌, ap, refl, subst, sym}
use Prim.Native.Nat.{ℕ, zero, suc, ◌+◌, ◌-◌, ◌<◌, ◌≤◌}
use native.Mathlib.Nat.{zero-add}
use native.Mathlib.Omega.{arith}
use borrow.Author.Tests.{ltb-true}
use lib.Dec.{eqb, leb, ltb}
use lib.ListN.{get_or, length}
use Rattle.std.specs.Prelude.{Option, None, Some}
use Rattle.limits.specs.Limits.{max_arity, max_definitions}
use Rattle.theory.specs.Lists.{numbers_from}
use Rattle.rows.specs.Rows.{arity_of, no_code}
use Rattle.rows.specs.Numbers.{arity_in, binder_in, row_number}
use Rattle.rows.proofs.Numbers.{row-arity, row-binder}
use Rattle.tokens.specs.Token.{arguments_of, token_at, width_of}
use Rattle.tokens.specs.declared.Token.{Token}
use Rattle.tokens.specs.declared.Token.TheVariants.{Parameter, Bound, Name, InstanceOperator, BuiltIn, Literal}
use Rattle.tokens.proofs.Places.{spans}
use Rattle.texts.specs.Noted.{is_name}
use Rattle.resolve.specs.Look.{look_in}
use Rattle.resolve.specs.Walk.{inside, miscounted_at, number_in, number_of, unknown_at}
use Rattle.resolve.specs.declared.Look.{Look}
use Rattle.resolve.specs.declared.Looked.{Looked}
use Rattle.levels.specs.Tables.{Names, names_of, place_of}
use Rattle.levels.specs.Walk as levels
use Rattle.levels.specs.declared.steps.Step.{Step as LevelStep}
use Rattle.levels.proofs.Heads.{is_bound, is-built-in, is-literal, is_name_lem, is-operator, is-parameter, name-stepped}
use Rattle.levels.proofs.Numbered.{numbers-at}
use Rattle.levels.proofs.Walking.{steps-code, steps-parameter, steps-token}
use Rattle.skimming.specs.Skims as causes
use Rattle.skimming.specs.declared.Step.{Step as CauseStep}
use Rattle.skimming.proofs.Walking.{heads, step-code, step_count, step-no-code, step-nothing, step-parameter, step-token}
use Rattle.standing.specs.Standing.{itselves}
use Rattle.asking.specs.Walk.{Beside, CodeAt, Coded, Known, NamedBy, Over, ParameterAt, Passed, Steps, Told, causes_of, level_of, names_in, numbers_in, number_there}
use Rattle.asking.specs.declared.steps.Scope.{Scope}
use Rattle.asking.specs.declared.steps.Step.{Step}
use Rattle.store.specs.declared.Facts.{Facts}

-- in a module of its own each definition is itself
placed-itself : (g : ℕ) → place_of itselves g ≡ g
placed-itself g = go (ltb g max_definitions) refl
  where
    go : (b : Bool) → ltb g max_definitions ≡ b → cond b (get_or itselves g 0) g ≡ g
    go true e = sym (numbers-at 0 max_definitions g (ltb-true g max_definitions e)) ∙ zero-add g
    go false e = refl

module _ (words : List ℕ) (look : Option Look) (bits l f x : ℕ) (r : LevelStep) where
  pub named_by : (k n w : ℕ) → n ≡ number_of look → w ≡ get_or words n 0 → levels.Headed w 0 k bits l f x r → NamedBy words look k bits l f x r
  named_by k n w en ew h = record {
    anywhere = λ refs at e.
        name-stepped (names_of refs itselves words 0) at bits l f x r k w
        (ew ∙ ap (λ (i : ℕ). get_or words i 0) (en ∙ sym e ∙ sym (placed-itself (get_or refs at 0)))) h;
  }

  module _ (t : Token) where
    pub told-parameter : (i : ℕ) → t ≡ Parameter i → levels.Plain 0 (Parameter i) bits l f x r → Told words look t bits l f x (Some r)
    told-parameter i e p = record { anywhere = λ refs at h. is-parameter (names_of refs itselves words 0) t at bits l f x r i e p }

    pub told-bound : (j : ℕ) → t ≡ Bound j → levels.Plain 0 (Bound j) bits l f x r → Told words look t bits l f x (Some r)
    told-bound j e p = record { anywhere = λ refs at h. is_bound (names_of refs itselves words 0) t at bits l f x r j e p }

    pub told-name : (n k : ℕ) → t ≡ Name n k → NamedBy words look k bits l f x r → Told words look t bits l f x (Some r)
    told-name n k e p = record { anywhere = λ refs at h. is_name_lem (names_of refs itselves words 0) t at bits l f x r n k e (p.anywhere refs at (h (ap is_name e))) }

    pub told-operator : (i n k : ℕ) → t ≡ InstanceOperator i n k → NamedBy words look k bits l f x r → Told words look t bits l f x (Some r)
    told-operator i n k e p = record { anywhere = λ refs at h. is-operator (names_of refs itselves words 0) t at bits l f x r i n k e (p.anywhere refs at (h (ap is_name e))) }

    pub told-literal : (n : ℕ) → t ≡ Literal n → levels.Plain 0 (Literal n) bits l f x r → Told words look t bits l f x (Some r)
    told-literal n e p = record { anywhere = λ refs at h. is-literal (names_of refs itselves words 0) t at bits l f x r n e p }

module _ (words : List ℕ) (look : Option Look) (bits l f x : ℕ) (t : Token) where
  pub told-code : (r : Option LevelStep) (c : ℕ) → t ≡ BuiltIn c → levels.Built c bits l f x r → Told words look t bits l f x r
  told-code r c e p = record { anywhere = λ refs at h. is-built-in (names_of refs itselves words 0) t at bits l f x r c e p }

-- the table beside the bytes says of a token what is looked up
mapped : (f : ℕ → ℕ) (i n k : ℕ) → k < n → get_or (map f (numbers_from i n)) k 0 ≡ f (i + k)
mapped f i zero k h = absurd (omega arith)
mapped f i (suc n) zero h = ap f (omega arith)
mapped f i (suc n) (suc k) h = let e : suc i + k ≡ i + suc k = omega arith in mapped f (suc i) n k (omega arith) ∙ ap f e

module _ (names : List ℕ) (facts : List Facts) (cs s : List ℕ) where
  pub number-at : (at : ℕ) → at < length s → get_or (numbers_in names facts cs s) at 0 ≡ number_there names facts cs (token_at s at)
  unfolding numbers_in
  number-at at h =
      mapped (λ i. number_there names facts cs (token_at s i)) 0 (length s) at h ∙ ap (λ (i : ℕ). number_there names facts cs (token_at s i)) (zero-add at)

  pub number-at-token : (at : ℕ) (t : Token) → token_at s at ≡ Some t → get_or (numbers_in names facts cs s) at 0 ≡ number_in names facts cs t
  number-at-token at t h = let r = spans s at t h in number-at at (omega arith) ∙ ap (number_there names facts cs) h

-- a row's number says how many arguments follow its codes and what they bind
read-arity : (c : ℕ) → arity_in (row_number c) ≡ arity_of c
read-arity c = row-arity c (row_number c) refl (arity_in (row_number c)) refl

same-inside : (x c k : ℕ) → row_number x ≡ row_number c → inside (BuiltIn x) k ≡ inside (BuiltIn c) k
same-inside x c k e =
    let b = binder_in (row_number x) in
    ap (λ (n : ℕ). cond (eqb n 0) k (k + 1)) (sym (row-binder x (row_number x) refl b refl) ∙ row-binder c (row_number x) e b refl)

-- a step, and the position after it by another name
module _ (N : Names) (t : Token) (at bits l f x : ℕ) (y : LevelStep) (n : ℕ) (e : n ≡ x) where
  abbrev at_next : ℕ → LevelStep
  at_next m = record { count = y.count; inner = y.inner; labels = y.labels; form = y.form; next = m }

  moved : levels.Stepped N t at bits l f x y → levels.Stepped N t at bits l f x (at_next n)
  moved h = subst (λ (m : ℕ). levels.Stepped N t at bits l f x (at_next m)) (h.next ∙ sym e) h

module _ (names : List ℕ) (facts : List Facts) (cs words : List ℕ) (p : ℕ) (s : List ℕ) (e : Scope) (l f : ℕ) (a : Looked) where
  abbrev N : Names
  N = names_in names facts cs words s

  module _ (u : Option Token) (et : u ≡ token_at s a.next) where
    pub any-nothing : u ≡ None → Steps names facts cs words p s e l f a None
    any-nothing z = step-nothing names facts cs p e.bound s a u et z

    module _ (t : Token) (there : u ≡ Some t) (k : ℕ) (ek : k ≡ arguments_of t) where
      pub any-count : max_arity < k → Steps names facts cs words p s e l f a None
      any-count z = step_count names facts cs p e.bound s a u et t k there ek z

      pub any-token : k ≤ max_arity → (w : ℕ) → w ≡ width_of t → (r : Option Step) → Over names facts cs words p t e l f a (a.next + w) r
          → Steps names facts cs words p s e l f a r
      any-token few w ew None lost = absurd (omega (arith, lost.0, ek))
      any-token few w ew (Some r) o =
          let stepped : levels.Stepped N t a.next e.bits l f (a.next + w) (level_of r) =
          o.told.anywhere (numbers_in names facts cs s) a.next (λ _. number-at-token names facts cs s a.next t (sym et ∙ there)) in
          record {
            causes = step-token names facts cs p e.bound s a r.count r.inner.bound (record { next = a.next + w; unknown = a.unknown; miscounted = a.miscounted }) u t et there
                stepped.count w ew o.bound (omega (arith, stepped.count)) r.looked (refl, refl, refl) o.heads;
            level = steps-token N s a.next e.bits l f (Some (level_of r)) u t et there w ew stepped;
          }

  -- where two bytes are left
  module _ (x tag : ℕ) (more : 1 < length s - a.next) (ex : x ≡ get_or s (a.next + 1) 0) (et : tag ≡ get_or s a.next 0) where
    pub next-parameter : (r : Step) → tag ≡ 0 → ParameterAt p x e l f a (a.next + 2) r → Passed names facts cs words p s e l f a r
    next-parameter r z h = record {
      causes = step-parameter names facts cs p e.bound s a x tag more ex et (causes_of r) z h.causes;
      level = steps-parameter N s a.next e.bits l f (level_of r) x tag more ex et z h.level;
    }

    pub next-code : (r : Option Step) → tag ≡ 4 → CodeAt x e l f a (a.next + 2) r → Steps names facts cs words p s e l f a r
    next-code None z h = step-no-code names facts cs p e.bound s a x tag more ex et z (row_number x) (arity_in (row_number x)) refl refl (read-arity x ∙ h)
    next-code (Some r) z h = record {
      causes = step-code names facts cs p e.bound s a r.count r.inner.bound r.looked x tag (row_number x) more ex et z refl (h.count ∙ sym (read-arity x))
          (λ (q : r.count ≡ no_code). h.there (sym h.count ∙ q)) (λ c q. h.bound ∙ same-inside x c e.bound q) h.known;
      level = steps-code N s a.next e.bits l f (Some (level_of r)) x tag more ex et z h.level;
    }

-- the level's step, and beside it what is said of the names
module _ (e : Scope) (l f : ℕ) (a : Looked) (x : ℕ) (y : LevelStep) (r : Step) where
  pub over-is : (names : List ℕ) (facts : List Facts) (cs words : List ℕ) (p : ℕ) (t : Token) (look : Option Look) (n : ℕ) (b : Looked) → look ≡ look_in names facts cs t
      → Told words look t e.bits l f x (Some y)
      → (b.next ≡ x) × (b.unknown ≡ (unknown_at p e.bound t look || a.unknown)) × (b.miscounted ≡ (miscounted_at t look || a.miscounted))
      → n ≡ inside t e.bound → Beside y n b r → Known names facts cs words p t e l f a x r
  over-is names facts cs words p t look n b el told h en d =
      let same : r.looked ≡ b = ap (λ (c : CauseStep). c.looked) d.causes in
      record {
        heads = rw same (heads names facts cs p e.bound t (record { next = x; unknown = a.unknown; miscounted = a.miscounted }) look b el h);
        bound = ap (λ (c : CauseStep). c.inner) d.causes ∙ en;
        told = record {
          anywhere = λ refs at k.
              subst (levels.Stepped (names_of refs itselves words 0) t at e.bits l f x) (sym d.level)
              (moved (names_of refs itselves words 0) t at e.bits l f x y b.next h.0 (told.anywhere refs at (λ z. k z ∙ ap number_of (sym el))));
        };
      }

  pub parameter-at : (p i : ℕ) (v : Bool) (c : Looked) → v ≡ leb p i → (c.next ≡ x) × (c.unknown ≡ (a.unknown || v)) × (c.miscounted ≡ (a.miscounted || false))
      → levels.Plain 0 (Parameter i) e.bits l f x y → Beside y e.bound c r → ParameterAt p i e l f a x r
  parameter-at p i v c ev (hn, hu, hm) h d =
      let st = h.anywhere (names_of [] [] [] 0) 0 refl in
      record {
        causes = subst (causes.Leaf e.bound x (leb p i) a) (sym d.causes) record {
          count = st.count;
          inner = refl;
          next = hn;
          unknown = hu ∙ ap (λ (b : Bool). a.unknown || b) ev;
          miscounted = hm;
        };
        level = record {
          anywhere = λ N at o.
              subst (levels.Stepped N (Parameter i) at e.bits l f x) (sym d.level) (moved N (Parameter i) at e.bits l f x y c.next hn (h.anywhere N at o));
        };
      }

  module _ (code : ℕ) (h : levels.Built code e.bits l f x (Some y)) where
    pub code_at : (n : ℕ) (c : Looked) → n ≡ inside (BuiltIn code) e.bound
        → (c.next ≡ x) × (c.unknown ≡ a.unknown) × (c.miscounted ≡ a.miscounted) → Beside y n c r → Coded code e l f a x r
    code_at n c en k d =
        let same : r.looked ≡ c = ap (λ (b : CauseStep). b.looked) d.causes in
        record {
          there = h.0;
          count = ap (λ (b : CauseStep). b.count) d.causes ∙ (h.1 (names_of [] [] [] 0) 0).count;
          bound = ap (λ (b : CauseStep). b.inner) d.causes ∙ en;
          known = rw same k;
          level = subst (λ (w : LevelStep). levels.Built code e.bits l f x (Some w)) (sym d.level) (h.0, λ N at. moved N (BuiltIn code) at e.bits l f x y c.next k.0 (h.1 N at));
        }

-- where there is none
pub over-lost : (words : List ℕ) (t : Token) (bits l f x : ℕ) (look : Option Look) → Told words look t bits l f x None → levels.Lost t
over-lost words t bits l f x look told = told.anywhere (number_of look ∷ []) 0 (λ _. refl)
