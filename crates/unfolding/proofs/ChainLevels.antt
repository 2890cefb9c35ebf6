-- The walk along the chain of a definition: what is known at each level of it.
use borrow.Author.Tests.{lt-ltb, ne_eqb}
use mathlib.Core.Bool.{false, true}
use mathlib.Core.List.{List, [], ◌++◌, ◌∷◌, append_assoc}
use mathlib.Core.Logic.{◌⊎◌, ◌≢◌, inl, inr}
use mathlib.Core.Option.{Option, some}
use mathlib.Core.Path.{◌∙◌, ◌≡◌, ap, refl, subst, sym}
use lib.ListN.{get_or, length}
use native.Mathlib.Omega.{arith}
use Prim.Native.Nat.{◌+◌, ◌-◌, ◌/◌, ◌%◌, ◌<◌, ◌≤◌, suc, ℕ}
use Rattle.limits.specs.Limits.{max_arity, max_definitions}
use Rattle.theory.proofs.Summary.{AllFormed}
use Rattle.theory.specs.Expand.{Definition, arities_of, templates}
use Rattle.theory.specs.Term.{Arities, Kind, kind_arity}
use Rattle.rules.specs.State.{State, meanings, templates_of}
use Rattle.laws.proofs.Sound.{all-formed}
use Rattle.texts.specs.Text.{Declarations}
use Rattle.context.specs.Entries.{field_code, instance_kind, order_of}
use Rattle.store.specs.Store.{first_at, kind_at, link_at, source_at}
use Rattle.store.specs.declared.Store.{Store}
use Rattle.store.specs.declared.Facts.{Facts}
use Rattle.context.specs.declared.Counts.{Counts}
use Rattle.worlds.proofs.File.{world-params}
use Rattle.worlds.proofs.InWorld.{Comes, LinkOk}
use Rattle.worlds.proofs.Invariant.{length-meanings}
use Rattle.worlds.proofs.Runs.{Disjoint, Run}
use Rattle.worlds.proofs.Settled.{Settled, settled}
use Rattle.worlds.proofs.Uses.{uses-more}
use Rattle.worlds.specs.Rows.{Row, no_row, source_of, world_of}
use Rattle.worlds.specs.World.{AnyName, DeclaredBy, In, Link, SubstitutesDeclared, UsesOnly, World, brings, number_in, params_in}
use Rattle.entering.specs.Numbering.{Entered, ShowsNumbers}
use Rattle.entering.proofs.Entering.{numbers-shown}
use Rattle.standing.specs.Chained.{Own, Through}
use Rattle.standing.specs.Shown.{LinkShown, owner_shift}
use Rattle.chains.specs.Ready.{Ready}
use Rattle.chains.specs.Results.{Itselves}
use Rattle.chains.specs.Walk.{NumbersEntered, code_at, link_fits, outer_after, site_of, step_fits}
use Rattle.chains.proofs.Along.{has-link}
use Rattle.chains.proofs.Knowing.{DefinedIn, FormedIn}
use Rattle.chains.proofs.Linking.{Within, within-fits}
use Rattle.chains.proofs.Places.{InModule, brought-in, comes-link, declared-link, params-append, uses-module}
use Rattle.unfolding.specs.AtLevel.{AtLevel}

append-empty : (w : World) → w ++ [] ≡ w
append-empty [] = refl
append-empty (l ∷ w) = ap (λ (x : World). l ∷ x) (append-empty w)

-- a definition named in a world has there the instances' parameters before its own
module _ (ds : List Definition) (lawful : AllFormed [] ds) (bs : List Run) (disjoint : Disjoint bs) where
  pub number-arity : (w : World) (g D : ℕ) → Comes ds bs w g D → (h m : ℕ) → InModule w h → arities_of (templates ds) h ≡ some m
      → arities_of (templates ds) (number_in w h) ≡ some (params_in w + m)
  number-arity [] g D c h m i e = e ∙ ap {B = Option ℕ} some (omega arith)
  number-arity (l ∷ w) g D c h m i e =
      let t = subst (Settled (templates ds) (brings l h)) (c.0.brought-at h i) (settled ds lawful (brings l h) (omega (arith, c.0.room))) in
      number-arity w (brings l g) D c.2 (brings l h) (l.params + m) (brought-in ds lawful bs disjoint l w g D c.0 c.1 c.2 h i) (t.arity m e)
      ∙ ap {B = Option ℕ} some (omega arith)

-- a step that fits, by its parts
fits : (facts : List Facts) (outer cur : ℕ) → 0 < link_at facts cur → source_at facts cur < cur → link_fits facts outer (code_at facts cur) ≡ true
    → step_fits facts outer cur ≡ true
unfolding step_fits
fits facts outer cur l h e =
    let n : link_at facts cur ≢ 0 = λ (z : link_at facts cur ≡ 0). omega arith in
    rw (ne_eqb (link_at facts cur) 0 n, lt-ltb (source_at facts cur) cur h) e

module _ (file refs : List ℕ) (v : Store) (declared : List ℕ) (n D : ℕ) (c : Counts) (s : State) (rs : List Row) (decls : Declarations) (end : ℕ)
    (ready : Ready file refs v declared n c s rs decls end) (there : D < c.definitions) where
  abbrev ds : List Definition
  ds = meanings s

  abbrev bs : List Run
  bs = ready.worlds.runs

  abbrev ar : Arities
  ar = arities_of (templates_of s)

  pub lawful : AllFormed [] (meanings s)
  lawful = all-formed [] s.definitions ready.sound

  pub inside : D < length s.definitions
  inside = omega (arith, ready.counted)

  pub known : D < length (meanings s)
  known = omega (arith, inside, length-meanings s)

  pub few-definitions : length (meanings s) ≤ max_definitions
  few-definitions = omega (arith, ready.counted, ready.few, length-meanings s)

  pub defined-in : (w : World) (h : ℕ) → (h < length (meanings s)) × InModule w h → DefinedIn w h
  defined-in w h i = (omega (arith, i.0, few-definitions), i.1)

  -- at the start
  pub level-start : (numbers : List ℕ) → Itselves numbers → AtLevel s rs bs D 0 D 0 numbers
  level-start numbers i =
      record {
        world = [];
        split = sym (append-empty (world_of rs D));
        source = refl;
        before = omega arith;
        level = refl;
        around = refl;
        comes = refl;
        numbered = record { each = λ h x. i.each h x.0 };
      }

  module _ (l cur outer : ℕ) (numbers : List ℕ) (here : AtLevel s rs bs D l cur outer numbers) where
    pub cur-there : cur < c.definitions
    cur-there = omega (arith, here.before)

    -- an own definition, or one instance more
    pub step : Own v file refs decls s end (get_or rs cur no_row) cur ⊎ Through v c file refs decls rs end (get_or rs cur no_row) cur
    step = ready.chained.each cur cur-there

    module _ (t : Through v c file refs decls rs end (get_or rs cur no_row) cur) where
      abbrev k : Link
      k = t.link

      abbrev w : World
      w = here.world

      abbrev sh : LinkShown v c file refs decls end t.link (field_code t.field)
      sh = t.shown

      pub further : world_of rs D ≡ world_of rs t.from ++ (t.link ∷ here.world)
      further = here.split ∙ ap (λ (r : Row). r.world ++ w) t.follows ∙ append_assoc (world_of rs t.from) (k ∷ []) w

      pub ok : LinkOk ds bs t.link
      ok =
          comes-link ds bs (world_of rs t.from) k w (source_of rs D) D
          (subst (λ (x : World). Comes ds bs x (source_of rs D) D) further (ready.worlds.book.rows D known).0)

      pub onward : Comes ds bs here.world (brings t.link t.from) D
      onward = subst (λ (i : ℕ). Comes ds bs w i D) (sym t.number) here.comes

      brought-there : brings k t.from < length ds
      brought-there = omega (arith, ok.room, t.there)

      pub few-params : params_in (t.link ∷ here.world) ≤ max_arity
      few-params =
          let e : params_in (world_of rs D) ≡ params_in (world_of rs t.from ++ (k ∷ w)) = ap params_in further in
          omega (arith, e, params-append (world_of rs t.from) (k ∷ w), world-params s rs ready.worlds ready.sound D inside, ready.params D inside)

      pub placed : (j : Kind) (x : ℕ) → DeclaredBy t.link j x → FormedIn ar here.world (t.link.params + kind_arity j) (t.link.substitutes j x)
      placed j x e =
          record {
            formed =
                (subst (Settled (templates ds) (brings k t.from)) (ok.brought-at t.from t.there) (settled ds lawful (brings k t.from) brought-there)).formed j x;
            names =
                declared-link AnyName (world_of rs t.from) k w (subst (SubstitutesDeclared AnyName) further (ready.named D inside).1) j x e;
            uses =
                uses-more (λ h. (h < length ds) × InModule w h) (DefinedIn w) (defined-in w) (k.substitutes j x)
                (subst (UsesOnly (λ h. (h < length ds) × InModule w h)) (ok.brought-at t.from t.there)
                (uses-module ds lawful bs ready.worlds.book.disjoint w (brings k t.from) D onward known) j x);
          }

      -- the numbers that the store holds of the field

      pub code-there : code_at v.facts cur ≡ field_code t.field
      code-there = omega (arith, t.linked)

      pub site-there : site_of v.facts outer (code_at v.facts cur)
          ≡ record { outer = outer; params = t.link.params; owner = t.shown.owner; start = t.shown.start; count = t.shown.count }
      site-there =
          let p : kind_at v.facts (field_code t.field) - instance_kind ≡ k.params = omega (arith, sh.params) in
          let q : link_at v.facts (field_code t.field) / owner_shift ≡ sh.owner = omega (arith, sh.link, sh.few) in
          let r : link_at v.facts (field_code t.field) % owner_shift ≡ sh.count = omega (arith, sh.link, sh.few) in
          let y : site_of v.facts outer (field_code t.field) ≡ record { outer = outer; params = k.params; owner = sh.owner; start = sh.start; count = sh.count } =
          λ i. record { outer = outer; params = p i; owner = q i; start = sh.source i; count = r i } in
          ap (site_of v.facts outer) code-there ∙ y

      pub outer-there : outer_after v.facts outer cur ≡ params_in (t.link ∷ here.world)
      outer-there =
          let e : kind_at v.facts (code_at v.facts cur) ≡ kind_at v.facts (field_code t.field) = ap (kind_at v.facts) code-there in
          omega (arith, e, sh.params, here.around)

      pub fits-there : step_fits v.facts outer cur ≡ true
      fits-there =
          let b : Within v.facts outer (field_code t.field) =
          record {
            kind = omega (arith, sh.params);
            params = omega (arith, sh.params, few-params, here.around);
            owner = omega (arith, sh.link, sh.few, sh.stood.1, ready.modules);
            via = omega (arith, sh.via, sh.ended, ready.modules);
            first = omega (arith, sh.first, ok.room, ready.counted, ready.few, length-meanings s);
          } in
          fits v.facts outer cur (omega (arith, t.linked)) (omega (arith, t.source, t.below))
          (subst (λ (o : ℕ). link_fits v.facts outer o ≡ true) (sym code-there) (within-fits v.facts outer (field_code t.field) b))

      -- one instance further in
      pub level-through : (numbers' : List ℕ) → NumbersEntered v.facts v.orders v.heads (code_at v.facts cur) numbers numbers'
          → AtLevel s rs bs D (suc l) (source_at v.facts cur) (outer_after v.facts outer cur) numbers'
      level-through numbers' x =
          subst (λ (y : ℕ). AtLevel s rs bs D (suc l) y (outer_after v.facts outer cur) numbers') (sym t.source)
          (record {
            world = k ∷ w;
            split = further;
            source = here.source ∙ ap (λ (r : Row). r.source) t.follows;
            before = omega (arith, here.before, t.below);
            level = ap suc here.level;
            around = outer-there;
            comes = (ok, t.there, onward);
            numbered = numbered;
          })
        where
          o : ℕ
          o = field_code t.field

          y : NumbersEntered v.facts v.orders v.heads (field_code t.field) numbers numbers'
          y = subst (λ (o : ℕ). NumbersEntered v.facts v.orders v.heads o numbers numbers') code-there x

          entered : Entered k.names k.first numbers y.old numbers'
          entered =
              subst (λ (f : ℕ). Entered k.names f numbers y.old numbers') sh.first
              (subst (λ (gs : List ℕ). Entered gs (first_at v.facts (field_code t.field)) numbers y.old numbers')
              (ap (order_of v.orders v.heads) sh.via ∙ sh.names) y.entered)

          brought-here : (h : ℕ) → In h k.names → DefinedIn w (brings k h)
          brought-here h i =
              (omega (arith, ok.room, few-definitions, i), brought-in ds lawful bs ready.worlds.book.disjoint k w t.from D ok t.there onward h i)

          numbered : ShowsNumbers (DefinedIn (k ∷ w)) numbers' (k ∷ w)
          numbered =
              let z = numbers-shown (DefinedIn w) k w numbers y.old numbers' here.numbered brought-here entered in
              record { each = λ h i. z.each h (subst (λ (m : ℕ). h < m) (sym y.old_size) i.0, i.1) }

    -- A step that fits enters an instance.
    pub through : step_fits v.facts outer cur ≡ true → Through v c file refs decls rs end (get_or rs cur no_row) cur
    through e = go step
      where
        go : Own v file refs decls s end (get_or rs cur no_row) cur ⊎ Through v c file refs decls rs end (get_or rs cur no_row) cur
            → Through v c file refs decls rs end (get_or rs cur no_row) cur
        go (inl o) = absurd (omega (arith, o.unlinked, has-link v.facts outer cur e))
        go (inr t) = t

    pub level-on : step_fits v.facts outer cur ≡ true → (numbers' : List ℕ)
        → NumbersEntered v.facts v.orders v.heads (code_at v.facts cur) numbers numbers'
        → AtLevel s rs bs D (suc l) (source_at v.facts cur) (outer_after v.facts outer cur) numbers'
    level-on e numbers' x = level-through (through e) numbers' x

    -- Where no step fits stands the original.
    pub own-there : step_fits v.facts outer cur ≡ false → Own v file refs decls s end (get_or rs cur no_row) cur
    own-there e = go step
      where
        go : Own v file refs decls s end (get_or rs cur no_row) cur ⊎ Through v c file refs decls rs end (get_or rs cur no_row) cur
            → Own v file refs decls s end (get_or rs cur no_row) cur
        go (inl o) = o
        go (inr t) = absurd (let y = fits-there t in let z : ◌≡◌ {A = ℕ} 0 1 = cc in omega arith)
