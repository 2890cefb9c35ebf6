-- The stand-ins taken out of a definition's text, one after another.
use mathlib.Core.Bool.{Bool, ◌&&◌, ◌||◌, cond, false, not, true}
use mathlib.Core.List.{List, [], ◌∷◌}
use mathlib.Core.Logic.{◌⊎◌, inl, inr}
use mathlib.Core.Option.{Option, none, some}
use mathlib.Core.Path.{◌∙◌, ◌≡◌, ap, ap₂, refl, subst, sym}
use borrow.Author.Tests.{eq-eqb, eqb-false, eqb-true, le-leb, le-ltb, leb-false, leb-true, lt-leb, lt-ltb, ltb-false, ltb-true}
use lib.Dec.{eqb, leb, ltb}
use lib.ListN.{drop, get_or, length}
use native.Mathlib.Omega.{arith}
use Prim.Native.Nat.{◌*◌, ◌+◌, ◌-◌, ◌<◌, ◌≤◌, suc, zero, ℕ}
use Rattle.limits.specs.Limits.{max_arity, max_declarations, max_definitions}
use Rattle.symbols.specs.Spell.{max_params, spell}
use Rattle.symbols.specs.Symbol.{Symbol, begin, call, calls, code, end, name, number, par, var}
use Rattle.theory.proofs.Lists.{never}
use Rattle.theory.specs.Expand.{arities_of}
use Rattle.theory.specs.Lists.{any}
use Rattle.theory.specs.Term.{Kind, Term, constant, kind_arity, variable}
use Rattle.rules.specs.State.{State, params_of, templates_of}
use Rattle.laws.proofs.Formats.{some-injective}
use Rattle.texts.specs.Text.{Declarations, no_declaration}
use Rattle.store.specs.declared.Store.{Store}
use Rattle.context.specs.declared.Counts.{Counts}
use Rattle.worlds.proofs.File.{world-params}
use Rattle.worlds.proofs.Uses.{uses-more}
use Rattle.worlds.specs.Rows.{Row, world_of}
use Rattle.worlds.specs.World.{Uses, World, params_in}
use Rattle.chains.specs.Ready.{Ready}
use Rattle.chains.specs.Walk.{outer_after}
use Rattle.chains.proofs.Knowing.{NamedIn}
use Rattle.unfolding.specs.CalleeTerm.{Entered, own_term, sense_along, stand_in_term}
use Rattle.unfolding.specs.InWorld.{stand_in}
use Rattle.unfolding.specs.Sense.{Callee, Same, Sense, Stands}
use Rattle.unfolding.specs.StandIn.{Callable, StandInOf, arities_along, entry_of, level_of, outermost}
use Rattle.unfolding.proofs.AllRight.{RightBelow, StandInsShaped, callable-cases, callable-outside}
use Rattle.unfolding.proofs.Callees.{chain_length, few-below, few-declared}
use Rattle.unfolding.proofs.ChainLevels.{inside}
use Rattle.unfolding.proofs.SameLaws.{same_refl, same-trans}
use Rattle.unfolding.proofs.SenseLaws.{arity-few}
use Rattle.unfolding.proofs.ShapeSteps.{called-where, calls_near, own-calls, own-stands, standin-calls, standin-known}
use Rattle.unfolding.proofs.SpellAgree.{calls-none}
use Rattle.unfolding.proofs.StandIns.{StandInNumber, arity-defined, standin-number}

-- Tests of the calls of a string

-- one call that is there, and a test that no call passes
pub called-not : (q : ℕ → Bool) (h : ℕ) (gs : List Symbol) → any (calls q) gs ≡ false → any (calls (eqb h)) gs ≡ true → q h ≡ false
called-not q h [] e f = never (sym f)
called-not q h (par i ∷ gs) e f = called-not q h gs e f
called-not q h (var j ∷ gs) e f = called-not q h gs e f
called-not q h (name x k ∷ gs) e f = called-not q h gs e f
called-not q h (code c ∷ gs) e f = called-not q h gs e f
called-not q h (number v ∷ gs) e f = called-not q h gs e f
called-not q h (call n ∷ gs) e f = go (q n) (eqb h n) refl refl e f (called-not q h gs)
  where
    go : (a b : Bool) → q n ≡ a → eqb h n ≡ b → (a || any (calls q) gs) ≡ false → (b || any (calls (eqb h)) gs) ≡ true
        → (any (calls q) gs ≡ false → any (calls (eqb h)) gs ≡ true → q h ≡ false) → q h ≡ false
    go true b x y e f rest = never e
    go false true x y e f rest = ap q (eqb-true h n y) ∙ x
    go false false x y e f rest = rest e f
called-not q h (begin ∷ gs) e f = called-not q h gs e f
called-not q h (end ∷ gs) e f = called-not q h gs e f

-- two tests that no call passes
pub calls-both : (q r u : ℕ → Bool) → ((n : ℕ) → q n ≡ false → r n ≡ false → u n ≡ false) → (gs : List Symbol) → any (calls q) gs ≡ false → any (calls r) gs ≡ false
    → any (calls u) gs ≡ false
calls-both q r u i [] e f = refl
calls-both q r u i (par j ∷ gs) e f = calls-both q r u i gs e f
calls-both q r u i (var j ∷ gs) e f = calls-both q r u i gs e f
calls-both q r u i (name x k ∷ gs) e f = calls-both q r u i gs e f
calls-both q r u i (code c ∷ gs) e f = calls-both q r u i gs e f
calls-both q r u i (number v ∷ gs) e f = calls-both q r u i gs e f
calls-both q r u i (call n ∷ gs) e f = go (q n) (r n) refl refl e f (calls-both q r u i gs)
  where
    go : (a b : Bool) → q n ≡ a → r n ≡ b → (a || any (calls q) gs) ≡ false → (b || any (calls r) gs) ≡ false
        → (any (calls q) gs ≡ false → any (calls r) gs ≡ false → any (calls u) gs ≡ false) → (u n || any (calls u) gs) ≡ false
    go true b x y e f rest = never e
    go false true x y e f rest = never f
    go false false x y e f rest = ap₂ (λ (a b : Bool). a || b) (i n x y) (rest e f)
calls-both q r u i (begin ∷ gs) e f = calls-both q r u i gs e f
calls-both q r u i (end ∷ gs) e f = calls-both q r u i gs e f

-- the highest call gone, none is left from it on
pub calls-down : (h : ℕ) (gs : List Symbol) → any (calls (λ n. leb (suc h) n)) gs ≡ false → any (calls (eqb h)) gs ≡ false → any (calls (λ n. leb h n)) gs ≡ false
calls-down h gs = calls-both (λ n. leb (suc h) n) (eqb h) (λ n. leb h n) low gs
  where
    low : (n : ℕ) → leb (suc h) n ≡ false → eqb h n ≡ false → leb h n ≡ false
    low n a b =
        let z : (h ≡ n) → ⊥ = eqb-false h n b in
        lt-leb h n (omega (arith, leb-false (suc h) n a))

-- Which numbers may be called along a chain, as a test

abbrev same_kind : Option Kind → Kind → Bool
same_kind none k = false
same_kind (some (constant a)) (constant b) = eqb a b
same_kind (some (constant a)) variable = false
same_kind (some variable) (constant b) = false
same_kind (some variable) variable = true

same_kind_lem : (k : Kind) → same_kind (some k) k ≡ true
same_kind_lem (constant a) = eq-eqb a a refl
same_kind_lem variable = refl

kind-same : (o : Option Kind) (k : Kind) → same_kind o k ≡ true → o ≡ some k
kind-same none k e = never (sym e)
kind-same (some (constant a)) (constant b) e = ap (λ (x : ℕ). some (constant x)) (eqb-true a b e)
kind-same (some (constant a)) variable e = never (sym e)
kind-same (some variable) (constant b) e = never (sym e)
kind-same (some variable) variable e = refl

abbrev is_named : Declarations → World → ℕ → Bool
is_named decls [] i = ltb i (length decls)
is_named decls (l ∷ w) i = ltb i (length decls) && same_kind (l.kinds (get_or decls i no_declaration).1) (get_or decls i no_declaration).0

both : (a b : Bool) → a ≡ true → b ≡ true → (a && b) ≡ true
both true true p q = refl
both true false p q = q
both false b p q = p

each : (a b : Bool) → (a && b) ≡ true → (a ≡ true) × (b ≡ true)
each true true e = (refl, refl)
each true false e = never (sym e)
each false b e = never (sym e)

is-named : (decls : Declarations) (w : World) (i : ℕ) → NamedIn decls w i → is_named decls w i ≡ true
is-named decls [] i x = lt-ltb i (length decls) x.0
is-named decls (l ∷ w) i x =
    both _ _ (lt-ltb i (length decls) x.0)
    (ap (λ (o : Option Kind). same_kind o (get_or decls i no_declaration).0) x.1 ∙ same_kind_lem (get_or decls i no_declaration).0)

named-is : (decls : Declarations) (w : World) (i : ℕ) → is_named decls w i ≡ true → NamedIn decls w i
named-is decls [] i e = (ltb-true i (length decls) e, tt)
named-is decls (l ∷ w) i e =
    let x = each (ltb i (length decls)) (same_kind (l.kinds (get_or decls i no_declaration).1) (get_or decls i no_declaration).0) e in
    (ltb-true i (length decls) x.0, kind-same (l.kinds (get_or decls i no_declaration).1) (get_or decls i no_declaration).0 x.1)

-- the number of the first stand-in
abbrev pub first_stand_in : ℕ
first_stand_in = stand_in 1 max_definitions

abbrev is_stand_in : Declarations → World → ℕ → ℕ → Bool
is_stand_in decls w k h = leb first_stand_in h && (leb (level_of h) k && is_named decls (outermost (level_of h) w) (entry_of h))

-- neither a definition below D nor a stand-in of a name that is declared there
abbrev pub stray : Declarations → ℕ → World → ℕ → ℕ → Bool
stray decls D w k h = not (ltb h D || is_stand_in decls w k h)

-- what stands for declaration entry_of h one level further in than level_of h - 1
pub record StandInCalled (decls : Declarations) (w : World) (k h : ℕ) : Type 0 where
  pub high : first_stand_in ≤ h
  pub on : level_of h - 1 < k
  pub named : NamedIn decls (outermost (suc (level_of h - 1)) w) (entry_of h)
  pub number : h ≡ stand_in (suc (level_of h - 1)) (max_definitions + entry_of h)

not-or : (a b : Bool) → a ≡ false → not (a || b) ≡ false → b ≡ true
not-or true b p e = never p
not-or false true p e = refl
not-or false false p e = never e

or_right : (a b : Bool) → b ≡ true → not (a || b) ≡ false
or_right true b e = refl
or_right false true e = refl
or_right false false e = never (sym e)

or_left : (a b : Bool) → a ≡ true → not (a || b) ≡ false
or_left true b e = refl
or_left false b e = never (sym e)

pub stray-standin : (decls : Declarations) (D : ℕ) (w : World) (k h : ℕ) → D ≤ h → stray decls D w k h ≡ false → StandInCalled decls w k h
stray-standin decls D w k h q e =
    let x = each _ _ (not-or (ltb h D) (is_stand_in decls w k h) (le-ltb h D q) e) in
    let y = each _ _ x.1 in
    let high : first_stand_in ≤ h = leb-true first_stand_in h x.0 in
    let level : level_of h ≤ k = leb-true (level_of h) k y.0 in
    let z : level_of h ≡ suc (level_of h - 1) = omega arith in
    record {
      high = high;
      on = omega arith;
      named = subst (λ (l : ℕ). NamedIn decls (outermost l w) (entry_of h)) z (named-is decls (outermost (level_of h) w) (entry_of h) y.1);
      number = omega arith;
    }

-- While stand-ins are taken out: a term that means what the text means, and calls only what is known.
pub record Taken (g : Sense) (p : ℕ) (own : Term) (stray : ℕ → Bool) (t : Term) : Type 0 where
  pub stands : Stands g p t
  pub same : Same g own t
  pub known : any (calls stray) (spell g.shape t) ≡ false

get_d_past : {A : Type 0} (xs : List A) (i : ℕ) (d : A) → length xs ≤ i → get_or xs i d ≡ d
get_d_past [] i d h = refl
get_d_past (x ∷ xs) zero d h = absurd (omega arith)
get_d_past (x ∷ xs) (suc i) d h = get_d_past xs i d (omega arith)

params-drop : (j : ℕ) (w : World) → params_in (drop j w) ≤ params_in w
params-drop zero w = omega arith
params-drop (suc j) [] = omega arith
params-drop (suc j) (l ∷ w) = omega (arith, params-drop j w)

module _ (file refs : List ℕ) (v : Store) (declared : List ℕ) (n D : ℕ) (c : Counts) (s : State) (rs : List Row) (decls : Declarations) (end : ℕ)
    (ready : Ready file refs v declared n c s rs decls end) (there : D < c.definitions) (room : n ≤ max_declarations) (k : ℕ) (numbers currents outers : List ℕ)
    (e : Entered s rs ready.worlds.runs v.facts D k numbers currents outers) where
  abbrev W : World
  W = world_of rs D

  abbrev own : Term
  own = own_term file refs v.facts decls k numbers currents outers

  abbrev term : ℕ → ℕ → Term
  term l i = stand_in_term file refs v decls numbers currents outers l i

  low : D < max_definitions
  low = few-below file refs v declared n D c s rs decls end ready there room k numbers currents outers e

  few : length decls ≤ max_declarations
  few = few-declared file refs v declared n D c s rs decls end ready there room k numbers currents outers e

  long : k ≡ length W
  long = chain_length file refs v declared n D c s rs decls end ready there room k numbers currents outers e

  kind-few : (i : ℕ) → kind_arity (get_or decls i no_declaration).0 ≤ max_arity
  kind-few i = go (ltb i (length decls)) refl
    where
      go : (b : Bool) → ltb i (length decls) ≡ b → kind_arity (get_or decls i no_declaration).0 ≤ max_arity
      go true q = ready.codes.few i (ltb-true i (length decls) q)
      go false q =
          subst (λ (d : Kind × ℕ). kind_arity d.0 ≤ max_arity) (sym (get_d_past decls i no_declaration (ltb-false i (length decls) q))) (omega arith)

  world-few : (l : ℕ) → params_in (outermost l W) ≤ max_arity
  world-few l =
      let i = inside file refs v declared n D c s rs decls end ready there in
      omega (arith, params-drop (length W - l) W, world-params s rs ready.worlds ready.sound D i, ready.params D i)

  -- no call along a chain has more arguments than a shape has bits for
  pub few-along : (h m : ℕ) → arities_along s decls (world_of rs D) h ≡ some m → m ≤ max_params
  few-along h m q = go (ltb h max_definitions) refl
    where
      go : (b : Bool) → ltb h max_definitions ≡ b → m ≤ max_params
      go true x =
          omega (arith, arity-few s ready.sound ready.params h m (sym (arity-defined s decls W h (ltb-true h max_definitions x)) ∙ q))
      go false x =
          let z : params_in (outermost (level_of h) W) + kind_arity (get_or decls (entry_of h) no_declaration).0 ≡ m =
          some-injective
          (sym (ap {B = Option ℕ} (λ (b : Bool). cond b (arities_of (templates_of s) h) (some (params_in (outermost (level_of h) W) + kind_arity (get_or decls (entry_of h) no_declaration).0))) x) ∙ q) in
          omega (arith, world-few (level_of h), kind-few (entry_of h))

  -- nothing that a text of the chain calls is stray
  callable-known : (l : ℕ) → l ≤ k → (h : ℕ) → Callable decls D (outermost l W) h → stray decls D W k h ≡ false
  callable-known zero q h x = or_left (ltb h D) (is_stand_in decls W k h) (lt-ltb h D (callable-outside decls D W h x))
  callable-known (suc l) q h x = go (callable-cases decls D (outermost (suc l) W) h x)
    where
      go : (h < D) ⊎ StandInOf decls (outermost (suc l) W) h → stray decls D W k h ≡ false
      go (inl y) = or_left (ltb h D) (is_stand_in decls W k h) (lt-ltb h D y)
      go (inr y) =
          let z : StandInNumber decls W (suc l) h = standin-number decls W (suc l) h few (omega (arith, long)) y in
          or_right (ltb h D) (is_stand_in decls W k h)
          (both _ _ (le-leb first_stand_in h (omega (arith, z.number)))
          (both _ _ (le-leb (level_of h) k (omega (arith, z.level)))
          (is-named decls (outermost (level_of h) W) (entry_of h)
          (subst (λ (j : ℕ). NamedIn decls (outermost j W) (entry_of h)) (sym z.level) z.named))))

  module _ (σ : ℕ → ℕ) where
    text-known : (l : ℕ) → l ≤ k → (t : Term) → Uses (Callable decls D (outermost l W)) t → any (calls (stray decls D W k)) (spell σ t) ≡ false
    text-known l q t u =
        calls-none (stray decls D W k) σ t 0 (uses-more (Callable decls D (outermost l W)) (λ h. stray decls D W k h ≡ false) (callable-known l q) t u)

    text-near : (l : ℕ) → l ≤ k → (t : Term) → Uses (Callable decls D (outermost l W)) t → any (calls (λ h. leb 1280 h)) (spell σ t) ≡ false
    text-near l q t u =
        calls-none (λ h. leb 1280 h) σ t 0
        (uses-more (λ h. h < 1280) (λ h. leb 1280 h ≡ false) (λ h r. lt-leb 1280 h r) t
        (calls_near file refs v declared n D c s rs decls end ready there room k numbers currents outers e l q t u))

    -- every call is below the stand-ins of the next level
    text-below : (l b : ℕ) → l ≤ k → stand_in (suc l) max_definitions ≤ b → (t : Term) → Uses (Callable decls D (outermost l W)) t → any (calls (λ h. leb b h)) (spell σ t) ≡ false
    text-below l b q r t u = calls-none (λ h. leb b h) σ t 0 (uses-more (Callable decls D (outermost l W)) (λ h. leb b h ≡ false) under t u)
      where
        under : (h : ℕ) → Callable decls D (outermost l W) h → leb b h ≡ false
        under h x = go (called-where file refs v declared n D c s rs decls end ready there room k numbers currents outers e l q h x)
          where
            go : (h < D) ⊎ ((max_definitions ≤ h) × (h < max_definitions + max_declarations * suc l)) → leb b h ≡ false
            go (inl y) = lt-leb b h (omega (arith, low))
            go (inr y) = lt-leb b h (omega (arith, y.1))

    pub own-known-calls : any (calls (stray decls D (world_of rs D) k)) (spell σ (own_term file refs v.facts decls k numbers currents outers)) ≡ false
    own-known-calls =
        text-known k (omega arith) own (own-calls file refs v declared n D c s rs decls end ready there room k numbers currents outers e)

    pub own-near : any (calls (λ h. leb 1280 h)) (spell σ (own_term file refs v.facts decls k numbers currents outers)) ≡ false
    own-near = text-near k (omega arith) own (own-calls file refs v declared n D c s rs decls end ready there room k numbers currents outers e)

    module _ (l i : ℕ) (on : l < k) (named : NamedIn decls (outermost (suc l) (world_of rs D)) i) where
      used : Uses (Callable decls D (outermost l W)) (term l i)
      used = standin-calls file refs v declared n D c s rs decls end ready there room k numbers currents outers e l i on named

      pub standin-known-calls : any (calls (stray decls D (world_of rs D) k)) (spell σ (stand_in_term file refs v decls numbers currents outers l i)) ≡ false
      standin-known-calls = text-known l (omega arith) (term l i) used

      pub standin-near : any (calls (λ h. leb 1280 h)) (spell σ (stand_in_term file refs v decls numbers currents outers l i)) ≡ false
      standin-near = text-near l (omega arith) (term l i) used

      -- what stands for a name calls only stand-ins of lower numbers
      pub standin-down : (b : ℕ) → stand_in (suc l) max_definitions ≤ b → any (calls (λ h. leb b h)) (spell σ (stand_in_term file refs v decls numbers currents outers l i)) ≡ false
      standin-down b r = text-below l b (omega arith) r (term l i) used

    module _ (below : RightBelow s σ D) (shaped : StandInsShaped file refs v rs decls D numbers currents outers σ k) where
      abbrev g : Sense
      g = sense_along s decls W σ

      pub taken_start : Taken (sense_along s decls (world_of rs D) σ) (params_of s D) (own_term file refs v.facts decls k numbers currents outers)
          (stray decls D (world_of rs D) k) (own_term file refs v.facts decls k numbers currents outers)
      taken_start =
          record {
            stands = own-stands file refs v declared n D c s rs decls end ready there room k numbers currents outers e σ below shaped;
            same = same_refl g own;
            known = own-known-calls;
          }

      module _ (t : Term) (taken : Taken g (params_of s D) own (stray decls D W k) t) where
        -- a call from D on is a stand-in along the chain
        pub taken-called : (h : ℕ) → D ≤ h → any (calls (eqb h)) (spell σ t) ≡ true → StandInCalled decls (world_of rs D) k h
        taken-called h q x = stray-standin decls D W k h q (called-not (stray decls D W k) h (spell σ t) taken.known x)

        -- what it stands for
        pub called-callee : (h : ℕ) → StandInCalled decls (world_of rs D) k h
            → Callee (sense_along s decls (world_of rs D) σ) h
            (outer_after v.facts (get_or outers (level_of h - 1) 0) (get_or currents (level_of h - 1) 0) + kind_arity (get_or decls (entry_of h) no_declaration).0)
            (stand_in_term file refs v decls numbers currents outers (level_of h - 1) (entry_of h))
        called-callee h x =
            subst
            (λ (y : ℕ). Callee g y
            (outer_after v.facts (get_or outers (level_of h - 1) 0) (get_or currents (level_of h - 1) 0) + kind_arity (get_or decls (entry_of h) no_declaration).0)
            (term (level_of h - 1) (entry_of h))) (sym x.number)
            (standin-known file refs v declared n D c s rs decls end ready there room k numbers currents outers e σ below (level_of h - 1) (entry_of h) x.on x.named shaped)

        -- one stand-in taken out
        pub taken-on : (h : ℕ) → StandInCalled decls (world_of rs D) k h → (t' : Term) → Stands (sense_along s decls (world_of rs D) σ) (params_of s D) t'
            → Same (sense_along s decls (world_of rs D) σ) t t'
            → ((q : ℕ → Bool) → any (calls q) (spell σ t) ≡ false
            → any (calls q) (spell σ (stand_in_term file refs v decls numbers currents outers (level_of h - 1) (entry_of h))) ≡ false → any (calls q) (spell σ t') ≡ false)
            → Taken (sense_along s decls (world_of rs D) σ) (params_of s D) (own_term file refs v.facts decls k numbers currents outers) (stray decls D (world_of rs D) k) t'
        taken-on h x t' stands same others =
            record {
              stands = stands;
              same = same-trans g own t t' taken.same same;
              known = others (stray decls D W k) taken.known (standin-known-calls (level_of h - 1) (entry_of h) x.on x.named);
            }

        -- none is left
        pub taken-end : any (calls (λ h. leb max_definitions h)) (spell σ t) ≡ false → any (calls (λ h. leb D h)) (spell σ t) ≡ false
        taken-end x = calls-both (stray decls D W k) (λ h. leb max_definitions h) (λ h. leb D h) under (spell σ t) taken.known x
          where
            under : (h : ℕ) → stray decls D W k h ≡ false → leb max_definitions h ≡ false → leb D h ≡ false
            under h a b = go (leb D h) refl
              where
                go : (z : Bool) → leb D h ≡ z → z ≡ false
                go false q = refl
                go true q = absurd (omega (arith, leb-false max_definitions h b, (stray-standin decls D W k h (leb-true D h q) a).high))
