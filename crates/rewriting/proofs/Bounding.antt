-- Where the arguments of a call begin and end, one after another, and their strings.
use mathlib.Core.List.{List, [], ◌∷◌, map}
use mathlib.Core.Path.{◌∙◌, ◌≡◌, ap, ap₂, refl, sym}
use lib.ListN.{get_or, length, length-set, set}
use lib.Seq.{get_or-set_other, get_or-set_same}
use native.Mathlib.Decide.{dec_lt}
use native.Mathlib.Omega.{arith}
use Prim.Native.Nat.{ℕ, zero, suc, ◌+◌, ◌/◌, ◌<◌, ◌≤◌}
use Rattle.theory.specs.Lists.{numbers_from}
use Rattle.symbols.specs.Spell.{max_params}
use Rattle.symbols.specs.Symbol.{Symbol}
use Rattle.strings.proofs.Filling.{numbers-at}
use Rattle.strings.specs.Laid.{arguments_at, bound_count}
use Rattle.strings.specs.Read.{string_at}
use Rattle.rewriting.specs.Ends.{end_of, last_from}
use Rattle.rewriting.specs.Filling.{Bounds, arguments_of}

-- the bits after the lowest k
abbrev pub dropped : ℕ → ℕ → ℕ
dropped zero h = h
dropped (suc k) h = dropped k (h / 2)

dropped-half : (k h : ℕ) → dropped k h / 2 ≡ dropped (suc k) h
dropped-half zero h = refl
dropped-half (suc k) h = dropped-half k (h / 2)

module _ (a shapes : List ℕ) where
  -- one argument more
  last_one : (i h at : ℕ) → end_of a shapes (dropped i h) (last_from a shapes i h at) ≡ last_from a shapes (suc i) h at
  last_one zero h at = refl
  last_one (suc i) h at = last_one i (h / 2) (end_of a shapes h at)

  pub argument-of : (h at i : ℕ) → i < max_params → get_or (arguments_of a shapes h at) i [] ≡ string_at a (last_from a shapes i h at) (last_from a shapes (suc i) h at)
  unfolding arguments_of
  argument-of h at i l =
      let z : 0 + i ≡ i = omega arith in
      numbers-at (λ j. string_at a (last_from a shapes j h at) (last_from a shapes (suc j) h at)) 0 max_params i l
      ∙ ap (λ (j : ℕ). string_at a (last_from a shapes j h at) (last_from a shapes (suc j) h at)) z

  numbers-same : (f g : ℕ → List Symbol) (k n : ℕ) → ((i : ℕ) → i < k + n → f i ≡ g i) → map f (numbers_from k n) ≡ map g (numbers_from k n)
  numbers-same f g k zero h = refl
  numbers-same f g k (suc n) h = ap₂ ◌∷◌ (h k (omega arith)) (numbers-same f g (suc k) n (λ i l. h i (omega arith)))

  -- the strings between the bounds
  pub arguments-same : (h at : ℕ) (bounds : List ℕ) → Bounds a shapes h at bounds → arguments_at a bounds ≡ arguments_of a shapes h at
  unfolding arguments_at arguments_of
  arguments-same h at bounds b =
      numbers-same (λ i. string_at a (get_or bounds i 0) (get_or bounds (suc i) 0)) (λ i. string_at a (last_from a shapes i h at) (last_from a shapes (suc i) h at)) 0 max_params
      (λ i l. ap₂ (string_at a) (b.each i (omega arith)) (b.each (suc i) (omega arith)))

pub bounds-long : (a shapes : List ℕ) (h at : ℕ) (bounds : List ℕ) → Bounds a shapes h at bounds → length bounds ≡ bound_count
bounds-long a shapes h at bounds b = b.long

-- The bounds to i are there, and these bits are left.
pub record Bounding (a shapes : List ℕ) (h at : ℕ) (bounds : List ℕ) (rest i : ℕ) : Type 0 where
  pub long : length bounds ≡ bound_count
  pub within : i ≤ max_params
  pub left : rest ≡ dropped i h
  pub each : (j : ℕ) → j ≤ i → get_or bounds j 0 ≡ last_from a shapes j h at

module _ (a shapes : List ℕ) (h at : ℕ) (bounds : List ℕ) where
  pub bounding-start : length bounds ≡ bound_count → Bounding a shapes h at (set bounds 0 at) h 0
  bounding-start l =
      record {
        long = length-set bounds 0 at ∙ l;
        within = omega arith;
        left = refl;
        each = first;
      }
    where
      first : (j : ℕ) → j ≤ 0 → get_or (set bounds 0 at) j 0 ≡ last_from a shapes j h at
      first zero q = get_or-set_same bounds 0 at 0 (omega arith)
      first (suc j) q = absurd (omega arith)

  module _ (rest i : ℕ) (v : Bounding a shapes h at bounds rest i) where
    pub bounding-long : length bounds ≡ bound_count
    bounding-long = v.long

    pub bounding-here : i < max_params → i < length bounds
    bounding-here l = omega (arith, v.long)

    pub bounding-next : i < max_params → i + 1 < length bounds
    bounding-next l = omega (arith, v.long)

    pub bounding-turn : (e : ℕ) → i < max_params → e ≡ end_of a shapes rest (get_or bounds i 0) → Bounding a shapes h at (set bounds (i + 1) e) (rest / 2) (i + 1)
    bounding-turn e l q =
        let z : i + 1 ≡ suc i = omega arith in
        record {
          long = length-set bounds (i + 1) e ∙ v.long;
          within = omega arith;
          left = ap (λ (x : ℕ). x / 2) v.left ∙ dropped-half i h ∙ ap (λ (k : ℕ). dropped k h) (sym z);
          each = λ j m. go j m (dec_lt j (i + 1));
        }
      where
        go : (j : ℕ) → j ≤ i + 1 → Dec (j < i + 1) → get_or (set bounds (i + 1) e) j 0 ≡ last_from a shapes j h at
        go j m (yes k) = get_or-set_other bounds (i + 1) j e 0 (λ y. omega arith) ∙ v.each j (omega arith)
        go j m (no k) =
            let y : j ≡ i + 1 = omega arith in
            let w : i + 1 ≡ suc i = omega arith in
            ap (λ (x : ℕ). get_or (set bounds (i + 1) e) x 0) y ∙ get_or-set_same bounds (i + 1) e 0 (omega (arith, v.long)) ∙ q
            ∙ ap₂ (end_of a shapes) v.left (v.each i (omega arith)) ∙ last_one a shapes i h at ∙ ap (λ (x : ℕ). last_from a shapes x h at) (sym (y ∙ w))

    pub bounding-end : max_params ≤ i → Bounds a shapes h at bounds
    bounding-end l = record { long = v.long; each = λ j m. v.each j (omega arith) }
