-- The shapes of the stand-ins along a chain, stored in the order of their numbers: what each string calls has been stored before it.
use mathlib.Core.Bool.{Bool, false, true}
use mathlib.Core.List.{List}
use mathlib.Core.Logic.{◌≢◌}
use mathlib.Core.Path.{◌∙◌, ◌≡◌, ap, refl, subst, sym}
use borrow.Author.Tests.{ltb-false, ltb-true}
use lib.Dec.{ltb}
use lib.ListN.{get_or-eq_default, get_or, length, length-set, set}
use lib.Seq.{get_or-set_other, get_or-set_same}
use native.Mathlib.Omega.{arith}
use Prim.Native.Nat.{◌*◌, ◌+◌, ◌-◌, ◌<◌, ◌≤◌, suc, ℕ}
use Rattle.limits.specs.Limits.{file_bytes, max_declarations, max_definitions}
use Rattle.symbols.specs.Spell.{max_params, shape_limit, shape_of, spell}
use Rattle.symbols.specs.Symbol.{Symbol}
use Rattle.theory.specs.Term.{Arities, Term, WellFormed}
use Rattle.store.specs.declared.Store.{Store}
use Rattle.store.specs.declared.Facts.{Facts}
use Rattle.worlds.proofs.Uses.{uses-more}
use Rattle.worlds.specs.Rows.{world_of}
use Rattle.strings.proofs.Reading.{stands}
use Rattle.strings.proofs.Standing.{shape-small}
use Rattle.strings.specs.Read.{far, string_at}
use Rattle.chains.proofs.Knowing.{NamedIn}
use Rattle.unfolding.proofs.AllRight.{StandInsShaped}
use Rattle.unfolding.proofs.Shapes.{unseen}
use Rattle.unfolding.proofs.SpellAgree.{spell-agree}
use Rattle.unfolding.proofs.StandIns.{standin-entry, standin-level}
use Rattle.unfolding.specs.CalleeTerm.{max_links, own_term, stand_in_term}
use Rattle.unfolding.specs.InWorld.{stand_in}
use Rattle.unfolding.specs.StandIn.{entry_of, level_of, outermost}
use Rattle.spelling.specs.Strings.{ShapesFit, shapes_of}
use Rattle.callees.specs.Results.{OwnString, StandInString, Strung}
use Rattle.templates.proofs.Numbers.{along-named, along-on, own-near, own-text, standin-below, standin-near, standin-text}
use Rattle.templates.specs.Shaped.{Along, ChainHeld, Kept, NextShape, OwnShape, ShapedBelow, StandInShape, StandInsStored, first_stand_in, shape_count, text_bytes}
use Rattle.templates.specs.Told.{Told}

-- the shape of a string that stands in the memory
pub string-shape : (ar : Arities) (p : ℕ) (t : Term) (shapes : List ℕ) (end : ℕ) (out : List ℕ) (room : ℕ) (fits : Bool) (len h r : ℕ)
    → Strung t shapes end out room fits len → end ≤ file_bytes → text_bytes ≤ room → length out ≡ room → far (spell (shapes_of shapes) t) ≡ false → WellFormed ar p 0 t → p ≤ max_params
    → h ≡ shape_of (string_at out 0 len) → Kept h r → r ≡ shape_of (spell (shapes_of shapes) t)
string-shape ar p t shapes end out room fits len h r s short big long near formed few e kept =
    let gs : List Symbol = spell (shapes_of shapes) t in
    let y = s.spells.spelt (s.whole (omega arith) (omega arith)) in
    let small : shape_of gs < shape_limit = shape-small gs (λ i q. unseen (shapes_of shapes) ar p i (omega arith) t 0 formed) in
    let same : string_at out 0 len ≡ gs = stands out 0 gs len y.0 (omega (arith, y.1)) near in
    let z : h ≡ shape_of gs = e ∙ ap shape_of same in
    kept.same (omega arith) ∙ z

module _ (file refs : List ℕ) (v : Store) (numbers currents outers : List ℕ) where
  abbrev facts : List Facts
  facts = v.facts

  abbrev declared : List ℕ
  declared = v.declared

  pub standin-shaped : (m : ℕ) (along out : List ℕ) (room : ℕ) (fits : Bool) (len l e h r : ℕ) → m < shape_count → l ≡ level_of m - 1 → e ≡ entry_of m
      → StandInString file refs v numbers currents outers along l e out room fits len → text_bytes ≤ room → length out ≡ room
      → h ≡ shape_of (string_at out 0 len) → Kept h r → StandInShape file refs v declared m numbers currents outers along r
  standin-shaped m along out room fits len l e h r near ql qe s big long q kept = record { small = kept.small; right = right }
    where
      right : (n : ℕ) (x : Told file refs v declared n) (d k : ℕ) → d < x.counts.definitions → ChainHeld file refs v declared n d k numbers currents outers x → ShapesFit along
          → Along file refs v declared n d k m x
          → r ≡ shape_of (spell (shapes_of along) (stand_in_term file refs v x.decls numbers currents outers (level_of m - 1) (entry_of m)))
      right n x d k there chain fit a =
          let u = standin-text file refs v declared n d k numbers currents outers x there chain m a in
          let s' : StandInString file refs v numbers currents outers along (level_of m - 1) (entry_of m) out room fits len =
          subst (λ (j : ℕ). StandInString file refs v numbers currents outers along (level_of m - 1) j out room fits len) qe
          (subst (λ (j : ℕ). StandInString file refs v numbers currents outers along j e out room fits len) ql s) in
          let on = along-on file refs v declared n d k numbers currents outers x there chain m a in
          let named = along-named file refs v declared n d k numbers currents outers x there chain m a in
          string-shape _ _ (stand_in_term file refs v x.decls numbers currents outers (level_of m - 1) (entry_of m)) along x.end out room fits len h r
          (s'.string n d x.counts x.state x.rows x.decls x.end x.ready there x.room k chain on named fit) x.short big long
          (standin-near file refs v declared n d k numbers currents outers x there chain m a (shapes_of along) near) u.formed (omega (arith, u.few)) q kept

  pub own-shaped : (k : ℕ) (along out : List ℕ) (room : ℕ) (fits : Bool) (len h r : ℕ) → k ≤ max_links
      → OwnString file refs v numbers currents outers along k out room fits len → text_bytes ≤ room → length out ≡ room
      → h ≡ shape_of (string_at out 0 len) → Kept h r → OwnShape file refs v declared k numbers currents outers along r
  own-shaped k along out room fits len h r few s big long q kept = record { small = kept.small; right = right }
    where
      right : (n : ℕ) (x : Told file refs v declared n) (d : ℕ) → d < x.counts.definitions → ChainHeld file refs v declared n d k numbers currents outers x → ShapesFit along
          → r ≡ shape_of (spell (shapes_of along) (own_term file refs facts x.decls k numbers currents outers))
      right n x d there chain fit =
          let u = own-text file refs v declared n d k numbers currents outers x there chain in
          string-shape _ _ (own_term file refs facts x.decls k numbers currents outers) along x.end out room fits len h r
          (s.string n d x.counts x.state x.rows x.decls x.end x.ready there x.room chain fit) x.short big long
          (own-near file refs v declared n d k numbers currents outers x there chain (shapes_of along) few) u.formed (omega (arith, u.few)) q kept

pub set-fit : (along : List ℕ) (m r : ℕ) → r < shape_limit → ShapesFit along → ShapesFit (set along m r)
set-fit along m r small f i = go (ltb i m) refl (ltb m i) refl
  where
    other : i ≢ m → get_or (set along m r) i 0 < shape_limit
    other q = subst (λ (y : ℕ). y < shape_limit) (sym (get_or-set_other along m i r 0 q)) (f i)

    same : i ≡ m → get_or (set along m r) i 0 < shape_limit
    same q = inside (ltb i (length along)) refl
      where
        inside : (b : Bool) → ltb i (length along) ≡ b → get_or (set along m r) i 0 < shape_limit
        inside true e =
            subst (λ (y : ℕ). get_or (set along y r) i 0 < shape_limit) q (subst (λ (y : ℕ). y < shape_limit) (sym (get_or-set_same along i r 0 (ltb-true i (length along) e))) small)
        inside false e =
            let z : get_or (set along m r) i 0 ≡ 0 = get_or-eq_default (set along m r) 0 (omega (arith, length-set along m r, ltb-false i (length along) e)) in
            omega (arith, z)

    go : (a : Bool) → ltb i m ≡ a → (b : Bool) → ltb m i ≡ b → get_or (set along m r) i 0 < shape_limit
    go true e b q = other (λ (z : i ≡ m). omega (arith, ltb-true i m e))
    go false e true q = other (λ (z : i ≡ m). omega (arith, ltb-true m i q))
    go false e false q = same (omega (arith, ltb-false i m e, ltb-false m i q))

-- The stand-ins of numbers below m have their shapes.
pub record Storing (file refs : List ℕ) (v : Store) (declared : List ℕ) (n k : ℕ) (numbers currents outers before along : List ℕ) (m : ℕ) : Type 0 where
  pub high : first_stand_in ≤ m
  pub long : length along ≡ length before
  pub fit : ShapesFit before → ShapesFit along
  pub kept : (i : ℕ) → i < first_stand_in → get_or along i 0 ≡ get_or before i 0
  pub right : (x : Told file refs v declared n) (d : ℕ) → d < x.counts.definitions → ChainHeld file refs v declared n d k numbers currents outers x → ShapesFit before
      → ShapedBelow file refs v declared n d k m numbers currents outers along x

module _ (file refs : List ℕ) (v : Store) (declared : List ℕ) (n k : ℕ) (numbers currents outers : List ℕ) where
  pub storing-start : (along : List ℕ) → Storing file refs v declared n k numbers currents outers along along first_stand_in
  storing-start along =
      record {
        high = omega arith;
        long = refl;
        fit = λ f. f;
        kept = λ i q. refl;
        right = λ x d there chain fit i q a. absurd (omega (arith, a.high));
      }

  pub storing-turn : (before along : List ℕ) (m r : ℕ) → Storing file refs v declared n k numbers currents outers before along m → m < length along
      → NextShape file refs v declared n m numbers currents outers along r → Storing file refs v declared n k numbers currents outers before (set along m r) (m + 1)
  storing-turn before along m r s inside h =
      record {
        high = omega (arith, s.high);
        long = length-set along m r ∙ s.long;
        fit = λ f. set-fit along m r (h.small (s.fit f)) (s.fit f);
        kept = λ i q. get_or-set_other along m i r 0 (λ (z : i ≡ m). omega (arith, s.high)) ∙ s.kept i q;
        right = right;
      }
    where
      right : (x : Told file refs v declared n) (d : ℕ) → d < x.counts.definitions → ChainHeld file refs v declared n d k numbers currents outers x → ShapesFit before
          → (i : ℕ) → i < m + 1 → Along file refs v declared n d k i x
          → get_or (set along m r) i 0 ≡ shape_of (spell (shapes_of (set along m r)) (stand_in_term file refs v x.decls numbers currents outers (level_of i - 1) (entry_of i)))
      right x d there chain fit i q a = go (ltb i m) refl
        where
          -- what it calls has been stored before
          same : spell (shapes_of along) (stand_in_term file refs v x.decls numbers currents outers (level_of i - 1) (entry_of i))
              ≡ spell (shapes_of (set along m r)) (stand_in_term file refs v x.decls numbers currents outers (level_of i - 1) (entry_of i))
          same =
              spell-agree (shapes_of along) (shapes_of (set along m r)) (stand_in_term file refs v x.decls numbers currents outers (level_of i - 1) (entry_of i)) 0
              (uses-more (λ c. c < i) (λ c. get_or along c 0 ≡ get_or (set along m r) c 0) (λ c y. sym (get_or-set_other along m c r 0 (λ (z : c ≡ m). omega arith)))
              (stand_in_term file refs v x.decls numbers currents outers (level_of i - 1) (entry_of i))
              (standin-below file refs v declared n d k numbers currents outers x there chain i a))

          go : (b : Bool) → ltb i m ≡ b
              → get_or (set along m r) i 0 ≡ shape_of (spell (shapes_of (set along m r)) (stand_in_term file refs v x.decls numbers currents outers (level_of i - 1) (entry_of i)))
          go true e =
              get_or-set_other along m i r 0 (λ (z : i ≡ m). omega (arith, ltb-true i m e)) ∙ s.right x d there chain fit i (ltb-true i m e) a ∙ ap shape_of same
          go false e =
              let z : i ≡ m = omega (arith, ltb-false i m e) in
              let here : get_or (set along i r) i 0 ≡ r = get_or-set_same along i r 0 (omega arith) in
              let told : r ≡ shape_of (spell (shapes_of along) (stand_in_term file refs v x.decls numbers currents outers (level_of i - 1) (entry_of i))) =
              subst (λ (j : ℕ). r ≡ shape_of (spell (shapes_of along) (stand_in_term file refs v x.decls numbers currents outers (level_of j - 1) (entry_of j)))) (sym z)
              (h.right x d k there chain (s.fit fit) (s.right x d there chain fit) (subst (λ (j : ℕ). Along file refs v declared n d k j x) z a)) in
              ap (λ (j : ℕ). get_or (set along j r) i 0) (sym z) ∙ here ∙ told ∙ ap shape_of same

  pub storing-end : (before along : List ℕ) (m : ℕ) → Storing file refs v declared n k numbers currents outers before along m
      → max_definitions + max_declarations * (k + 1) ≤ m → StandInsStored file refs v declared n k numbers currents outers before along
  storing-end before along m s far = record { long = s.long; fit = s.fit; kept = s.kept; right = right }
    where
      right : (x : Told file refs v declared n) (d : ℕ) → d < x.counts.definitions → ChainHeld file refs v declared n d k numbers currents outers x → ShapesFit before
          → StandInsShaped file refs v x.rows x.decls d numbers currents outers (shapes_of along) k
      right x d there chain fit j q i named =
          let few : length x.decls ≤ max_declarations = omega (arith, x.ready.numbered, x.room) in
          let fe : i < max_declarations = omega (arith, named.0) in
          let ql : level_of (stand_in (suc j) (max_definitions + i)) ≡ suc j = standin-level (suc j) i fe in
          let qe : entry_of (stand_in (suc j) (max_definitions + i)) ≡ i = standin-entry (suc j) i fe in
          let a : Along file refs v declared n d k (stand_in (suc j) (max_definitions + i)) x =
          record {
            high = omega arith;
            level = omega (arith, ql);
            named =
                subst (λ (y : ℕ). NamedIn x.decls (outermost (level_of (stand_in (suc j) (max_definitions + i))) (world_of x.rows d)) y) (sym qe)
                (subst (λ (y : ℕ). NamedIn x.decls (outermost y (world_of x.rows d)) i) (sym ql) named);
          } in
          let lq : level_of (stand_in (suc j) (max_definitions + i)) - 1 ≡ j = omega (arith, ql) in
          s.right x d there chain fit (stand_in (suc j) (max_definitions + i)) (omega arith) a
          ∙ ap (λ (y : ℕ). shape_of (spell (shapes_of along) (stand_in_term file refs v x.decls numbers currents outers y (entry_of (stand_in (suc j) (max_definitions + i)))))) lq
          ∙ ap (λ (y : ℕ). shape_of (spell (shapes_of along) (stand_in_term file refs v x.decls numbers currents outers j y))) qe

  -- no level, no stand-in
  pub storing-none : (along : List ℕ) → k ≡ 0 → StandInsStored file refs v declared n k numbers currents outers along along
  storing-none along e = storing-end along along first_stand_in (storing-start along) (omega arith)
