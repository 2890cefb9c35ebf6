-- The shapes of the definitions, each from those before it.
use mathlib.Core.Bool.{Bool, false, true}
use mathlib.Core.List.{List}
use mathlib.Core.Path.{◌∙◌, ◌≡◌, ap, refl, subst, sym}
use borrow.Author.Tests.{ltb-false, ltb-true}
use lib.Dec.{ltb}
use lib.ListN.{get_or-eq_default, get_or-replicate, get_or, length, length-replicate, length-set, replicate, set}
use lib.Seq.{get_or-set_other, get_or-set_same}
use native.Mathlib.Omega.{arith}
use Prim.Native.Nat.{◌+◌, ◌<◌, ◌≤◌, ℕ}
use Rattle.limits.specs.Limits.{max_definitions}
use Rattle.store.specs.declared.Store.{Store}
use Rattle.callees.specs.Walk.{ChainEntered}
use Rattle.unfolding.proofs.AllRight.{RightBelow}
use Rattle.unfolding.proofs.Callees.{right-shapes}
use Rattle.unfolding.proofs.ShapeSteps.{Agreed, below-kept, level_end, shapes-on}
use Rattle.unfolding.specs.CalleeTerm.{Entered, sense_of}
use Rattle.unfolding.specs.Sense.{Right}
use Rattle.spelling.specs.Strings.{ShapesFit, shapes_of}
use Rattle.templates.proofs.Storing.{set-fit}
use Rattle.templates.specs.Shaped.{Begun, Cleared, DefinitionStored, DefinitionsShaped, OwnShape, Prepared, StandInsStored, shape_count}
use Rattle.templates.specs.Told.{Told}
use Rattle.symbols.specs.Spell.{shape_limit}

-- shapes copied, the first i of them
pub record Beginning (shapes along : List ℕ) (i : ℕ) : Type 0 where
  pub long : length along ≡ shape_count
  pub same : (j : ℕ) → j < i → get_or along j 0 ≡ get_or shapes j 0

pub beginning-start : (shapes along : List ℕ) → length along ≡ shape_count → Beginning shapes along 0
beginning-start shapes along e = record { long = e; same = λ j q. absurd (omega arith) }

pub beginning-turn : (shapes along : List ℕ) (i b : ℕ) → Beginning shapes along i → i < shape_count → b ≡ get_or shapes i 0 → Beginning shapes (set along i b) (i + 1)
beginning-turn shapes along i b s l e = record { long = length-set along i b ∙ s.long; same = same }
  where
    same : (j : ℕ) → j < i + 1 → get_or (set along i b) j 0 ≡ get_or shapes j 0
    same j q = go (ltb j i) refl
      where
        go : (y : Bool) → ltb j i ≡ y → get_or (set along i b) j 0 ≡ get_or shapes j 0
        go true z = get_or-set_other along i j b 0 (λ (w : j ≡ i). omega (arith, ltb-true j i z)) ∙ s.same j (ltb-true j i z)
        go false z =
            let w : j ≡ i = omega (arith, ltb-false j i z) in
            ap (λ (y : ℕ). get_or (set along i b) y 0) w ∙ get_or-set_same along i b 0 (omega (arith, s.long)) ∙ e ∙ ap (λ (y : ℕ). get_or shapes y 0) (sym w)

pub beginning-end : (shapes along : List ℕ) (i : ℕ) → Beginning shapes along i → shape_count ≤ i → length shapes ≡ max_definitions → Begun shapes along
beginning-end shapes along i s l e = record { long = s.long; same = same }
  where
    same : (j : ℕ) → get_or along j 0 ≡ get_or shapes j 0
    same j = go (ltb j i) refl
      where
        go : (y : Bool) → ltb j i ≡ y → get_or along j 0 ≡ get_or shapes j 0
        go true z = s.same j (ltb-true j i z)
        go false z =
            get_or-eq_default along 0 (omega (arith, s.long, ltb-false j i z)) ∙ sym (get_or-eq_default shapes 0 (omega (arith, ltb-false j i z)))

-- past the end of a list of zeros there is 0 too
zeros : (n j : ℕ) → get_or (replicate {A = ℕ} n 0) j 0 ≡ 0
zeros n j = go (ltb j n) refl
  where
    go : (y : Bool) → ltb j n ≡ y → get_or (replicate {A = ℕ} n 0) j 0 ≡ 0
    go true z = get_or-replicate {A = ℕ} n j 0 0 (ltb-true j n z)
    go false z = get_or-eq_default (replicate {A = ℕ} n 0) 0 (omega (arith, length-replicate {A = ℕ} n 0, ltb-false j n z))

pub cleared : (before shapes : List ℕ) → shapes ≡ replicate {A = ℕ} (length before) 0 → length before ≡ max_definitions → Cleared shapes
cleared before shapes e l =
    record {
      long = ap length e ∙ length-replicate {A = ℕ} (length before) 0 ∙ l;
      none = λ j. ap (λ (y : List ℕ). get_or y j 0) e ∙ zeros (length before) j;
    }

-- the chain entered, and the shapes of its stand-ins stored
pub prepared : (file refs : List ℕ) (v : Store) (n d : ℕ) (shapes : List ℕ) (k : ℕ) (numbers currents outers before along : List ℕ)
    → Begun shapes before → ChainEntered v d k numbers currents outers
    → StandInsStored file refs v v.declared n k numbers currents outers before along
    → Prepared file refs v v.declared n d shapes k numbers currents outers along
prepared file refs v n d shapes k numbers currents outers before along b c s =
    record {
      few = c.few;
      long = s.long ∙ b.long;
      fit = λ f. s.fit (begun f);
      kept = λ i q. s.kept i q ∙ b.same i;
      chain = chain;
      right = λ x there f. s.right x d there (chain x there) (begun f);
    }
  where
    begun : ShapesFit shapes → ShapesFit before
    begun f i = subst (λ (y : ℕ). y < shape_limit) (sym (b.same i)) (f i)

    chain : (x : Told file refs v v.declared n) → d < x.counts.definitions
        → Entered x.state x.rows x.ready.worlds.runs v.facts d k numbers currents outers
    chain x there =
        c.chain file refs n x.counts x.state x.rows x.decls x.end x.ready there x.room x.within x.depths

module _ (file refs : List ℕ) (v : Store) (declared : List ℕ) (n d : ℕ) where
  pub definition-stored : (shapes : List ℕ) (k : ℕ) (numbers currents outers along : List ℕ) (h : ℕ) → length shapes ≡ max_definitions → d < max_definitions
      → Prepared file refs v declared n d shapes k numbers currents outers along → OwnShape file refs v declared k numbers currents outers along h
      → DefinitionStored file refs v declared n d shapes (set shapes d h)
  definition-stored shapes k numbers currents outers along h long few p o = record { shape = h; small = o.small; stored = refl; right = right }
    where
      right : (x : Told file refs v declared n) → d < x.counts.definitions → ShapesFit shapes → RightBelow x.state (shapes_of shapes) d
          → Right (sense_of x.state (shapes_of (set shapes d h))) d
      right x there fit below =
          let chain = p.chain x there in
          let here : get_or (set along d h) d 0 ≡ h = get_or-set_same along d h 0 (omega (arith, p.long)) in
          let there' : get_or (set shapes d h) d 0 ≡ h = get_or-set_same shapes d h 0 (omega arith) in
          right-shapes x.state (shapes_of (set along d h)) (shapes_of (set shapes d h)) d (here ∙ sym there')
          (shapes-on file refs v declared n d x.counts x.state x.rows x.decls x.end x.ready there x.room k numbers currents outers chain
          (shapes_of along) (shapes_of (set along d h)) agreed (below-kept x.state (shapes_of shapes) (shapes_of along) d (λ i q. sym (p.kept i (omega arith))) below)
          (p.right x there fit) (here ∙ o.right n x d there chain (p.fit fit)) d (omega arith))
        where
          agreed : Agreed (shapes_of along) (shapes_of (set along d h)) d (level_end k)
          agreed = (
            λ i q. sym (get_or-set_other along d i h 0 (λ (z : i ≡ d). omega arith)),
            λ i q r. sym (get_or-set_other along d i h 0 (λ (z : i ≡ d). omega arith)),
          )

-- The shapes of the first d definitions are right.
pub record Defining (file refs : List ℕ) (v : Store) (declared : List ℕ) (n d : ℕ) (shapes : List ℕ) : Type 0 where
  pub long : length shapes ≡ max_definitions
  pub fit : ShapesFit shapes
  pub right : (x : Told file refs v declared n) → d ≤ x.counts.definitions → RightBelow x.state (shapes_of shapes) d

module _ (file refs : List ℕ) (v : Store) (declared : List ℕ) (n : ℕ) where
  pub defining-start : (shapes : List ℕ) → Cleared shapes → Defining file refs v declared n 0 shapes
  defining-start shapes c = record { long = c.long; fit = λ i. omega (arith, c.none i); right = λ x q h l. absurd (omega arith) }

  pub defining-turn : (d : ℕ) (shapes shapes' : List ℕ) → Defining file refs v declared n d shapes → DefinitionStored file refs v declared n d shapes shapes'
      → Defining file refs v declared n (d + 1) shapes'
  defining-turn d shapes shapes' s h =
      record {
        long = ap length h.stored ∙ length-set shapes d h.shape ∙ s.long;
        fit = subst ShapesFit (sym h.stored) (set-fit shapes d h.shape h.small s.fit);
        right = right;
      }
    where
      right : (x : Told file refs v declared n) → d + 1 ≤ x.counts.definitions → RightBelow x.state (shapes_of shapes') (d + 1)
      right x q i l = go (ltb i d) refl
        where
          below : RightBelow x.state (shapes_of shapes) d
          below = s.right x (omega arith)

          go : (b : Bool) → ltb i d ≡ b → Right (sense_of x.state (shapes_of shapes')) i
          go true e =
              right-shapes x.state (shapes_of shapes) (shapes_of shapes') i
              (sym (ap (λ (ys : List ℕ). get_or ys i 0) h.stored ∙ get_or-set_other shapes d i h.shape 0 (λ (z : i ≡ d). omega (arith, ltb-true i d e))))
              (below i (ltb-true i d e))
          go false e =
              let z : i ≡ d = omega (arith, ltb-false i d e) in
              subst (Right (sense_of x.state (shapes_of shapes'))) (sym z) (h.right x (omega arith) s.fit below)

  pub defining-end : (d count : ℕ) (shapes : List ℕ) → Defining file refs v declared n d shapes → count ≤ d → d ≤ count → DefinitionsShaped file refs v declared n count shapes
  defining-end d count shapes s l g =
      let e : d ≡ count = omega arith in
      subst (λ (y : ℕ). DefinitionsShaped file refs v declared n y shapes) e (record { long = s.long; fit = s.fit; right = s.right })
