-- The walk along a chain, whatever stands: what the loop keeps.
use mathlib.Core.Bool.{Bool, false, true}
use mathlib.Core.List.{List}
use mathlib.Core.Path.{◌∙◌, ◌≡◌, ap, refl, subst, sym}
use lib.ListN.{get_or, length, length-set, set}
use lib.Seq.{get_or-set_other, get_or-set_same}
use native.Mathlib.Decide.{ℕ_discrete}
use native.Mathlib.Numerals.{add-one}
use native.Mathlib.Omega.{arith}
use Prim.Native.Nat.{◌+◌, ◌*◌, ◌<◌, ◌≤◌, suc, ℕ}
use Rattle.limits.specs.Limits.{max_arity, max_declarations, max_definitions, max_modules}
use Rattle.rules.specs.State.{State}
use Rattle.laws.proofs.Within.{Within}
use Rattle.texts.specs.Text.{Declarations}
use Rattle.store.specs.Store.{source_at}
use Rattle.store.specs.declared.Store.{Store}
use Rattle.store.specs.declared.Facts.{Facts}
use Rattle.context.specs.declared.Counts.{Counts}
use Rattle.worlds.specs.Rows.{Row, world_of}
use Rattle.worlds.proofs.Depth.{Depths, chain-short}
use Rattle.worlds.proofs.Runs.{Run}
use Rattle.chains.specs.Ready.{Ready}
use Rattle.chains.specs.Results.{Itselves}
use Rattle.chains.specs.Walk.{code_at, outer_after, step_fits}
use Rattle.chains.proofs.Along.{step_less, step-link}
use Rattle.chains.proofs.Linking.{fits-within}
use Rattle.unfolding.specs.AtLevel.{AtLevel}
use Rattle.unfolding.specs.CalleeTerm.{max_links, row_of}
use Rattle.unfolding.proofs.ChainLevels.{known, level-on, level-start}
use Rattle.unfolding.proofs.ChainTexts.{deeper}
use Rattle.callees.specs.Walk.{ChainEntered, ChainStarted, LevelEntered, RowEntered, RowPut, Sized}

pub outer-small : (facts : List Facts) (outer cur r : ℕ) → r ≡ outer_after facts outer cur → step_fits facts outer cur ≡ true → r ≤ max_arity
outer-small facts outer cur r p e = omega (arith, p, (fits-within facts outer (code_at facts cur) (step-link facts outer cur (code_at facts cur) refl e)).params)

pub source-small : (facts : List Facts) (outer cur r : ℕ) → r ≡ source_at facts cur → cur < max_definitions → step_fits facts outer cur ≡ true → r < max_definitions
source-small facts outer cur r p h e = omega (arith, step_less facts outer cur r p e)

pub level-entered : (facts : List Facts) (orders heads : List ℕ) (l : ℕ) (numbers numbers' currents outers : List ℕ) (cur outer o source around : ℕ) → cur ≡ get_or currents l 0
    → outer ≡ get_or outers l 0 → o ≡ code_at facts cur → RowEntered facts orders heads o l numbers numbers' → source ≡ source_at facts cur → around ≡ outer_after facts outer cur
    → LevelEntered facts orders heads l numbers numbers' currents (set currents (l + 1) source) outers (set outers (l + 1) around)
level-entered facts orders heads l numbers numbers' currents outers cur outer o source around c u p x q a =
    record {
      row = subst (λ (y : ℕ). RowEntered facts orders heads y l numbers numbers') (p ∙ ap (code_at facts) c) x;
      current = ap (λ (y : ℕ). set currents (l + 1) y) (q ∙ ap (source_at facts) c);
      outer = ap (λ (y : ℕ). set outers (l + 1) y) (a ∙ ap (λ (y : ℕ). outer_after facts y cur) u ∙ ap (outer_after facts (get_or outers l 0)) c);
    }

pub chain-started : (D : ℕ) (before numbers row currents outers : List ℕ) → RowPut before 0 row numbers → Itselves row → length currents ≡ max_modules
    → length outers ≡ max_modules → ChainStarted D numbers (set currents 0 D) (set outers 0 0)
chain-started D before numbers row currents outers p i h k =
    record { numbered = subst Itselves (sym p.here) i; current = get_or-set_same currents 0 D 0 (omega arith); outer = get_or-set_same outers 0 0 0 (omega arith) }

-- Levels up to l are in the arrays.
pub record Upto (v : Store) (D l : ℕ) (numbers currents outers : List ℕ) : Type 0 where
  pub sized : Sized numbers currents outers
  pub few : l ≤ max_links
  pub cur-few : get_or currents l 0 < max_definitions
  pub outer-few : get_or outers l 0 ≤ max_arity
  pub on : (j : ℕ) → j < l → step_fits v.facts (get_or outers j 0) (get_or currents j 0) ≡ true
  pub each : (file refs : List ℕ) (n : ℕ) (c : Counts) (s : State) (rs : List Row) (decls : Declarations) (end : ℕ)
      (ready : Ready file refs v v.declared n c s rs decls end) → D < c.definitions → (j : ℕ) → j ≤ l
      → AtLevel s rs ready.worlds.runs D j (get_or currents j 0) (get_or outers j 0) (row_of numbers j)

at_same : (s : State) (rs : List Row) (bs : List Run) (D j cur cur' outer outer' : ℕ) (row row' : List ℕ) → cur ≡ cur' → outer ≡ outer' → row ≡ row'
    → AtLevel s rs bs D j cur outer row → AtLevel s rs bs D j cur' outer' row'
at_same s rs bs D j cur cur' outer outer' row row' p q r a =
    subst (λ (y : List ℕ). AtLevel s rs bs D j cur' outer' y) r
    (subst (λ (y : ℕ). AtLevel s rs bs D j cur' y row) q (subst (λ (y : ℕ). AtLevel s rs bs D j y outer row) p a))

pub upto-start : (v : Store) (D : ℕ) (numbers currents outers : List ℕ) → Sized numbers currents outers → D < max_definitions → ChainStarted D numbers currents outers → Upto v D 0 numbers currents outers
upto-start v D numbers currents outers sized h x =
    record {
      sized = sized;
      few = omega arith;
      cur-few = omega (arith, x.current);
      outer-few = omega (arith, x.outer);
      on = λ (j : ℕ) (i : j < 0). absurd (omega arith);
      each = λ file refs n c s rs decls end ready there j i.
          let z : j ≡ 0 = omega (arith, i) in
          subst (λ (y : ℕ). AtLevel s rs ready.worlds.runs D y (get_or currents y 0) (get_or outers y 0) (row_of numbers y)) (sym z)
          (at_same s rs ready.worlds.runs D 0 D (get_or currents 0 0) 0 (get_or outers 0 0) (row_of numbers 0) (row_of numbers 0) (sym x.current) (sym x.outer) refl
          (level-start file refs v v.declared n D c s rs decls end ready there (row_of numbers 0) x.numbered));
    }

module _ (v : Store) (D l : ℕ) (numbers currents outers : List ℕ) (upto : Upto v D l numbers currents outers) where
  abbrev facts : List Facts
  facts = v.facts

  module _ (numbers' currents' outers' : List ℕ) (room : l < max_links) (fits : step_fits facts (get_or outers l 0) (get_or currents l 0) ≡ true)
      (x : LevelEntered facts v.orders v.heads l numbers numbers' currents currents' outers outers') where
    old-current : (j : ℕ) → j ≤ l → get_or currents j 0 ≡ get_or currents' j 0
    old-current j i =
        sym (ap (λ (y : List ℕ). get_or y j 0) x.current ∙ get_or-set_other currents (l + 1) j (source_at facts (get_or currents l 0)) 0 (λ (z : j ≡ l + 1). omega (arith, z)))

    old-outer : (j : ℕ) → j ≤ l → get_or outers j 0 ≡ get_or outers' j 0
    old-outer j i =
        sym (ap (λ (y : List ℕ). get_or y j 0) x.outer
        ∙ get_or-set_other outers (l + 1) j (outer_after facts (get_or outers l 0) (get_or currents l 0)) 0 (λ (z : j ≡ l + 1). omega (arith, z)))

    new-current : get_or currents' (l + 1) 0 ≡ source_at facts (get_or currents l 0)
    new-current =
        ap (λ (y : List ℕ). get_or y (l + 1) 0) x.current
        ∙ get_or-set_same currents (l + 1) (source_at facts (get_or currents l 0)) 0 (omega (arith, room, upto.sized.currents_size))

    new-outer : get_or outers' (l + 1) 0 ≡ outer_after facts (get_or outers l 0) (get_or currents l 0)
    new-outer =
        ap (λ (y : List ℕ). get_or y (l + 1) 0) x.outer
        ∙ get_or-set_same outers (l + 1) (outer_after facts (get_or outers l 0) (get_or currents l 0)) 0 (omega (arith, room, upto.sized.outers_size))

    step-on : (j : ℕ) → j < l + 1 → Dec (j ≡ l) → step_fits facts (get_or outers j 0) (get_or currents j 0) ≡ true
    step-on j i (yes e) = subst (λ (y : ℕ). step_fits facts (get_or outers y 0) (get_or currents y 0) ≡ true) (sym e) fits
    step-on j i (no e) = upto.on j (omega arith)

    module _ (file refs : List ℕ) (n : ℕ) (c : Counts) (s : State) (rs : List Row) (decls : Declarations) (end : ℕ)
        (ready : Ready file refs v v.declared n c s rs decls end) (there : D < c.definitions) where
      here : AtLevel s rs ready.worlds.runs D l (get_or currents l 0) (get_or outers l 0) (row_of numbers l)
      here = upto.each file refs n c s rs decls end ready there l (omega arith)

      next : AtLevel s rs ready.worlds.runs D (l + 1) (get_or currents' (l + 1) 0) (get_or outers' (l + 1) 0) (row_of numbers' (l + 1))
      next =
          subst (λ (y : ℕ). AtLevel s rs ready.worlds.runs D y (get_or currents' (l + 1) 0) (get_or outers' (l + 1) 0) (row_of numbers' (l + 1))) (sym (add-one l))
          (at_same s rs ready.worlds.runs D (suc l) (source_at facts (get_or currents l 0)) (get_or currents' (l + 1) 0)
          (outer_after facts (get_or outers l 0) (get_or currents l 0)) (get_or outers' (l + 1) 0) (row_of numbers' (l + 1)) (row_of numbers' (l + 1)) (sym new-current) (sym new-outer)
          refl
          (level-on file refs v v.declared n D c s rs decls end ready there l (get_or currents l 0) (get_or outers l 0) (row_of numbers l) here
          fits (row_of numbers' (l + 1)) x.row.entered))

      each_on : (j : ℕ) → j ≤ l + 1 → Dec (j ≡ l + 1)
          → AtLevel s rs ready.worlds.runs D j (get_or currents' j 0) (get_or outers' j 0) (row_of numbers' j)
      each_on j i (yes e) = subst (λ (y : ℕ). AtLevel s rs ready.worlds.runs D y (get_or currents' y 0) (get_or outers' y 0) (row_of numbers' y)) (sym e) next
      each_on j i (no e) =
          let k : j ≤ l = omega arith in
          at_same s rs ready.worlds.runs D j (get_or currents j 0) (get_or currents' j 0) (get_or outers j 0) (get_or outers' j 0) (row_of numbers j) (row_of numbers' j)
          (old-current j k) (old-outer j k) (sym (x.row.kept j (omega (arith, k)))) (upto.each file refs n c s rs decls end ready there j k)

    pub upto_turn : Sized numbers' currents' outers' → Upto v D (l + 1) numbers' currents' outers'
    upto_turn sized =
        record {
          sized = sized;
          few = omega (arith, room);
          cur-few = source-small facts (get_or outers l 0) (get_or currents l 0) (get_or currents' (l + 1) 0) new-current upto.cur-few fits;
          outer-few = outer-small facts (get_or outers l 0) (get_or currents l 0) (get_or outers' (l + 1) 0) new-outer fits;
          on = λ j i.
              let k : j ≤ l = omega (arith, i) in
              subst (λ (y : ℕ). step_fits facts y (get_or currents' j 0) ≡ true) (old-outer j k)
              (subst (λ (y : ℕ). step_fits facts (get_or outers j 0) y ≡ true) (old-current j k) (step-on j i (ℕ_discrete j l)));
          each = λ file refs n c s rs decls end ready there j i.
              each_on file refs n c s rs decls end ready there j i (ℕ_discrete j (l + 1));
        }

  -- Where no step is made the chain ends: it has no more links than there is room for.
  pub upto-whole : (l < max_links → step_fits facts (get_or outers l 0) (get_or currents l 0) ≡ false) → ChainEntered v D l numbers currents outers
  upto-whole left =
      record {
        few = upto.few;
        chain = λ file refs n c s rs decls end ready there room within depths.
            record {
              few = upto.few;
              each = upto.each file refs n c s rs decls end ready there;
              on = upto.on;
              over = over file refs n c s rs decls end ready there room within depths (step_fits facts (get_or outers l 0) (get_or currents l 0)) refl;
            };
      }
    where
      over : (file refs : List ℕ) (n : ℕ) (c : Counts) (s : State) (rs : List Row) (decls : Declarations) (end : ℕ)
          (ready : Ready file refs v v.declared n c s rs decls end) → D < c.definitions → n ≤ max_declarations → Within s → Depths s rs
          → (b : Bool) → step_fits facts (get_or outers l 0) (get_or currents l 0) ≡ b → b ≡ false
      over file refs n c s rs decls end ready there room within depths false e = refl
      over file refs n c s rs decls end ready there room within depths true e =
          let here = upto.each file refs n c s rs decls end ready there l (omega arith) in
          let deep : l < length (world_of rs D) =
          deeper file refs v v.declared n D c s rs decls end ready there room l (get_or currents l 0) (get_or outers l 0) (row_of numbers l) here e in
          let inside : D < length rs = omega (arith, known file refs v v.declared n D c s rs decls end ready there, ready.worlds.book.counted) in
          let short : length (world_of rs D) ≤ 15 = chain-short s rs within depths D inside in
          let z : ◌≡◌ {A = Bool} true false = sym e ∙ left (omega arith) in
          absurd (let y : ◌≡◌ {A = ℕ} 0 1 = cc in omega arith)

  -- A chain that fills the arrays ends there.
  pub upto-last : max_links ≤ l → ChainEntered v D max_links numbers currents outers
  upto-last h =
      let e : l ≡ max_links = omega (arith, upto.few) in
      subst (λ (k : ℕ). ChainEntered v D k numbers currents outers) e (upto-whole (λ g. absurd (omega arith)))
