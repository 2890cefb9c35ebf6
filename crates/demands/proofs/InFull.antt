-- Replacing every defined name in full can be done, and gives one term: the expansion.
use mathlib.Core.List.{List, [], ◌++◌, ◌∷◌}
use mathlib.Core.Path.{◌∙◌, ◌≡◌, ap, ap₂, fun_ext, refl, subst, sym}
use lib.ListN.{get_or-map, get_or, length, length-append, length-map}
use native.Mathlib.Decide.{dec_lt}
use native.Mathlib.Omega.{arith}
use Prim.Native.Nat.{◌+◌, ◌<◌, ◌≤◌, suc, zero, ℕ}
use Rattle.demands.proofs.Replacing.{arguments, basic-stays, brought-body, brought-replaced, expansions, own_body, own-replaced}
use Rattle.demands.specs.LongWay.{AllInFull, Basic, InFull, by_body, by_instance, nothing_left, one_more, stays}
use Rattle.laws.specs.Cards.{name_at_params}
use Rattle.laws.proofs.Checks.{by-fields}
use Rattle.laws.proofs.Invariant.{Good, good-file}
use Rattle.laws.proofs.Replacing.{known-below}
use Rattle.laws.proofs.Sound.{all-formed, length-templates}
use Rattle.rules.specs.Run.{checked, result}
use Rattle.rules.specs.State.{Added, State, definition_at, expansion_of, meanings, no_definition, params_of, templates_of}
use Rattle.theory.proofs.Later.{every-weaken}
use Rattle.theory.proofs.Summary.{AllFormed, FormedDefinition}
use Rattle.theory.specs.Expand.{Definition, Template, arities_of, body_in, brought, instantiate, nothing, own, params_from, put_in, template_of}
use Rattle.theory.specs.Level.{binds_in, plain}
use Rattle.theory.specs.Term.{Every, Everys, Fits, Head, Kind, Term, Terms, WellFormed, binder, bound, builtin, declared, defined, kind_arity, leaf, param}
use Rattle.theory.specs.Tree.{◌▹◌, node, ⟨⟩}

-- a definition is well formed over those before it
formed-at : (known : List Template) (ds : List Definition) → AllFormed known ds → (g : ℕ) → g < length ds
    → (before : List Template) × (length before ≡ length known + g) × FormedDefinition before (get_or ds g (own 0 nothing))
formed-at known [] a g l = absurd (omega arith)
formed-at known (d ∷ ds) a zero l = (known, omega arith, a.0)
formed-at known (d ∷ ds) a (suc g) l =
    let (before, n, f) = formed-at (known ++ (template_of known d ∷ [])) ds a.1 g (omega arith) in
    (before, n ∙ rw length-append (omega arith), f)

module _ (file memory : List ℕ) (s : State) (accepted : checked file memory ≡ result s) where
  good : Good s
  good = good-file file s (by-fields file memory s accepted)

  formed : (g : ℕ) (d : Definition) → g < length s.definitions → (definition_at s g).meaning ≡ d
      → (before : List Template) × (length before ≡ g) × FormedDefinition before d
  formed g d l e =
      let (before, n, f) = formed-at [] (meanings s) (all-formed [] s.definitions good.sound) g (rw length-map l) in
      (before, omega (arith, n), subst (FormedDefinition before) (get_or-map (λ (x : Added). x.meaning) s.definitions g no_definition ∙ e) f)

  original-below : (g p h : ℕ) (σ : Kind → ℕ → Term) → g < length s.definitions → (definition_at s g).meaning ≡ brought p σ h → h < g
  original-below g p h σ l e = let (before, n, f) = formed g (brought p σ h) l e in omega (arith, n, known-below before h _ f.1)

  -- ONE TERM: whoever replaces in full gets the expansion.
  mutual
    pub in-full : (t u : Term) → InFull s t u → u ≡ expansion_of s t
    in-full _ _ (stays h ts us b a) = ap (node h) (all-in-full ts us a) ∙ sym (basic-stays s h ts b)
    in-full _ _ (by_body g n t u v ts us l e a i r) =
        r ∙ ap₂ put_in (all-in-full ts us a) (in-full t u i) ∙ sym (own-replaced file memory s accepted g l n t e ts)
    in-full _ _ (by_instance g p h σ τ u v ts us l e a i f r) =
        r ∙ ap₂ put_in (all-in-full ts us a)
        (ap₂ (λ (τ : Kind → ℕ → Term) (u : Term). instantiate τ p u) (fun_ext λ k. fun_ext λ x. in-full (σ k x) (τ k x) (f k x)) (in-full (name_at_params s h) u i))
        ∙ sym (brought-replaced file memory s accepted g l p h σ (omega (arith, original-below g p h σ l e)) e ts)

    pub all-in-full : (ts us : Terms) → AllInFull s ts us → us ≡ expansions s ts
    all-in-full _ _ nothing_left = refl
    all-in-full _ _ (one_more t u ts us i a) = ap₂ ◌▹◌ (in-full t u i) (all-in-full ts us a)

-- the definitions named are below D
abbrev HeadBelow : ℕ → ℕ → Head → ℕ → Type 0
HeadBelow D k (param i) m = Unit {0}
HeadBelow D k (bound j) m = Unit {0}
HeadBelow D k (declared c x) m = Unit {0}
HeadBelow D k (defined g) m = g < D
HeadBelow D k (builtin c) m = Unit {0}
HeadBelow D k (leaf l) m = Unit {0}

fits_below : (known : List Template) (n D : ℕ) → length known ≤ D → (k : ℕ) (h : Head) (m : ℕ) → Fits (arities_of known) n k h m → HeadBelow D k h m
fits_below known n D l k (param i) m f = tt
fits_below known n D l k (bound j) m f = tt
fits_below known n D l k (declared c x) m f = tt
fits_below known n D l k (defined g) m f = omega (arith, known-below known g m f)
fits_below known n D l k (builtin c) m f = tt
fits_below known n D l k (leaf v) m f = tt

formed_below : (known : List Template) (n D : ℕ) → length known ≤ D → (t : Term) → WellFormed (arities_of known) n 0 t → Every (HeadBelow D) 0 t
formed_below known n D l t w = every-weaken (Fits (arities_of known) n) (HeadBelow D) (fits_below known n D l) t 0 w

params_below : (D k i n : ℕ) (b : ℕ → ℕ) → Everys (HeadBelow D) k b (params_from i n)
params_below D k i zero b = tt
params_below D k i (suc n) b = ((tt, tt), params_below D k (suc i) n (λ j. b (suc j)))

-- a name of definition g at arguments replaced in full, once its template is
abbrev Named : State → ℕ → Type 0
Named s g = (ts us : Terms) → AllInFull s ts us → InFull s (node (defined g) ts) (put_in us (body_in (templates_of s) g))

kept : {s : State} (h : Head) (ts : Terms) → Basic h → AllInFull s ts (expansions s ts) → InFull s (node h ts) (expansion_of s (node h ts))
kept {s} h ts b a = subst (InFull s (node h ts)) (sym (basic-stays s h ts b)) (stays h ts (expansions s ts) b a)

module _ (s : State) (D : ℕ) (names : (g : ℕ) → g < D → Named s g) where
  mutual
    term-in-full : (t : Term) (k : ℕ) → Every (HeadBelow D) k t → InFull s t (expansion_of s t)
    term-in-full (node (param i) ts) k w = kept (param i) ts tt (terms-in-full ts k (binds_in plain) w.1)
    term-in-full (node (bound j) ts) k w = kept (bound j) ts tt (terms-in-full ts k (binds_in plain) w.1)
    term-in-full (node (declared c x) ts) k w = kept (declared c x) ts tt (terms-in-full ts k (binds_in plain) w.1)
    term-in-full (node (defined g) ts) k w =
        subst (InFull s (node (defined g) ts)) (ap (λ (us : Terms). put_in us (body_in (templates_of s) g)) (sym (arguments s ts 0 (binds_in plain))))
        (names g w.0 ts (expansions s ts) (terms-in-full ts k (binds_in plain) w.1))
    term-in-full (node (builtin c) ts) k w = kept (builtin c) ts tt (terms-in-full ts k (binds_in (binder (builtin c))) w.1)
    term-in-full (node (leaf l) ts) k w = kept (leaf l) ts tt (terms-in-full ts k (binds_in plain) w.1)

    terms-in-full : (ts : Terms) (k : ℕ) (b : ℕ → ℕ) → Everys (HeadBelow D) k b ts → AllInFull s ts (expansions s ts)
    terms-in-full ⟨⟩ k b w = nothing_left
    terms-in-full (t ▹ ts) k b w =
        one_more t (expansion_of s t) ts (expansions s ts) (term-in-full t (b 0 + k) w.0) (terms-in-full ts k (λ i. b (suc i)) w.1)

module _ (file memory : List ℕ) (s : State) (accepted : checked file memory ≡ result s) where
  -- the name of a definition, the names below it being done
  next-in-full : (D : ℕ) → D < length s.definitions → ((g : ℕ) → g < D → Named s g) → (d : Definition) → (definition_at s D).meaning ≡ d → Named s D
  next-in-full D l names (own n t) e ts us a =
      let (before, long, f) = formed file memory s accepted D (own n t) l e in
      by_body D n t (expansion_of s t) (put_in us (body_in (templates_of s) D)) ts us l e a
      (term-in-full s D names t 0 (formed_below before n D (omega (arith, long)) t f)) (ap (put_in us) (sym (own_body file memory s accepted D l n t e)))
  next-in-full D l names (brought p σ h) e ts us a =
      let (before, long, f) = formed file memory s accepted D (brought p σ h) l e in
      let below = original-below file memory s accepted D p h σ l e in
      let whole = term-in-full s D names in
      by_instance D p h σ (λ k x. expansion_of s (σ k x)) (expansion_of s (name_at_params s h)) (put_in us (body_in (templates_of s) D)) ts us l e a
      (whole (name_at_params s h) 0 (below, params_below D 0 0 (params_of s h) (binds_in plain)))
      (λ k x. whole (σ k x) 0 (formed_below before (p + kind_arity k) D (omega (arith, long)) (σ k x) (f.0 k x)))
      (ap (put_in us) (sym (brought-body file memory s accepted D l p h σ (omega (arith, below)) e)))

  -- IT CAN BE DONE: definition by definition,
  names-in-full : (D : ℕ) → D ≤ length s.definitions → (g : ℕ) → g < D → Named s g
  names-in-full zero l g i = absurd (omega arith)
  names-in-full (suc D) l g i =
      last-or-before (names-in-full D (omega arith)) (next-in-full D (omega arith) (names-in-full D (omega arith)) (definition_at s D).meaning refl) (dec_lt g D)
    where
      last-or-before : ((h : ℕ) → h < D → Named s h) → Named s D → Dec (g < D) → Named s g
      last-or-before names last (yes q) = names g q
      last-or-before names last (no q) = subst (Named s) (let same : D ≡ g = omega (arith, q) in same) last

  -- every expression whose names are known can be replaced in full.
  pub can_be_replaced : (n : ℕ) (t : Term) → WellFormed (arities_of (templates_of s)) n 0 t → InFull s t (expansion_of s t)
  can_be_replaced n t w =
      term-in-full s (length s.definitions) (names-in-full (length s.definitions) (omega arith)) t 0
      (formed_below (templates_of s) n (length s.definitions) (omega (arith, length-templates [] s.definitions)) t w)

  -- and so can the name of every definition, at its parameters
  pub name-can-be-replaced : (g : ℕ) → g < length s.definitions → InFull s (name_at_params s g) (expansion_of s (name_at_params s g))
  name-can-be-replaced g l =
      let D = length s.definitions in
      term-in-full s D (names-in-full D (omega arith)) (name_at_params s g) 0 (l, params_below D 0 0 (params_of s g) (binds_in plain))
