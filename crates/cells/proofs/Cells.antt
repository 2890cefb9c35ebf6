-- The layout of the table, and ranks.
use mathlib.Core.Bool.{Bool, cond, false, true}
use mathlib.Core.Path.{◌≡◌, ◌∙◌, ap, refl, sym}
use borrow.Author.Tests.{eq-eqb, le-ltb, lt-ltb, ne_eqb}
use lib.Dec.{ltb}
use native.Mathlib.Nat.{add-zero, div-mul-le_self, le-div_iff_mul-le, mul-le-mul_right, zero-add}
use native.Mathlib.Omega.{arith}
use Prim.Native.Nat.{ℕ, zero, suc, ◌+◌, ◌*◌, ◌/◌, ◌<◌, ◌≤◌, min}
use Rattle.rewriting.specs.Ends.{places_in, places_of}
use Rattle.cells.specs.Table.{Sized, row_bytes}
use Rattle.cells.specs.declared.Layout.{Layout}
use Rattle.symbols.specs.Spell.{max_params}

pub next-yes : (rank room : ℕ) (called : Bool) → called ≡ true → rank < room → rank + 1 ≡ cond called (cond (ltb rank room) (rank + 1) rank) rank
next-yes rank room called e l = rw (e, lt-ltb rank room l)

pub next-full : (rank room : ℕ) (called : Bool) → called ≡ true → room ≤ rank → rank ≡ cond called (cond (ltb rank room) (rank + 1) rank) rank
next-full rank room called e l = rw (e, le-ltb rank room l)

pub next-no : (rank room : ℕ) (called : Bool) → called ≡ false → rank ≡ cond called (cond (ltb rank room) (rank + 1) rank) rank
next-no rank room called e = rw e

-- there are words for one call
roomy : (bytes places room : ℕ) (l : Layout) → places ≤ max_params → room ≡ min (bytes / 4 / (places + 3)) 16383 → l.room ≡ room → row_bytes ≤ bytes → 0 < l.room
roomy bytes places room l few e r b =
    let q : 1 ≤ bytes / 4 / (places + 3) = (le-div_iff_mul-le {k = places + 3} {x = 1} {y = bytes / 4} (omega arith)).1 (omega arith) in
    omega arith

pub sized : (bytes places room : ℕ) (l : Layout) → places ≤ max_params → room ≡ min (bytes / 4 / (places + 3)) 16383 → l.places ≡ places → l.stride ≡ places + 3 → l.room ≡ room → Sized l bytes
sized bytes places room l few e p s r =
    let a : room ≤ bytes / 4 / (places + 3) = omega arith in
    let b : room * (places + 3) ≤ bytes / 4 / (places + 3) * (places + 3) = mul-le-mul_right (places + 3) a in
    let c : bytes / 4 / (places + 3) * (places + 3) ≤ bytes / 4 = div-mul-le_self (bytes / 4) (places + 3) in
    let d : l.room * l.stride ≡ room * (places + 3) = rw (r, s) refl in
    record { few = omega arith; wide = omega arith; fits = omega arith; small = omega arith; some = roomy bytes places room l few e r }

-- So many places being counted, those of the rest are to be counted. The number of bits is kept out of reach: as a number, it would be unfolded.
unfoldable pub Counted : ℕ → ℕ → ℕ → Type 0
Counted h rest k = (f : ℕ) × (k + f ≡ max_params) × (k + places_in f rest ≡ places_of h)

module _ (h : ℕ) where
  pub counted_none : Counted h h 0
  unfolding Counted places_of
  counted_none = (max_params, refl, zero-add (places_in max_params h))

  module _ (rest k : ℕ) (v : Counted h rest k) where
    pub counted-few : k ≤ max_params
    unfolding Counted
    counted-few = omega (arith, v.1)

    pub counted-zero : rest ≡ 0 → k ≡ places_of h
    unfolding Counted
    counted-zero e = go v.0 v.2
      where
        go : (f : ℕ) → k + places_in f rest ≡ places_of h → k ≡ places_of h
        go zero q = sym (add-zero k) ∙ q
        go (suc f) q = sym (add-zero k) ∙ sym (ap (λ (b : Bool). k + cond b 0 (suc (places_in f (rest / 2)))) (eq-eqb rest 0 e)) ∙ q

    pub counted-turn : (rest ≡ 0 → ⊥) → k < max_params → Counted h (rest / 2) (k + 1)
    unfolding Counted
    counted-turn n l = go v.0 v.1 v.2
      where
        go : (f : ℕ) → k + f ≡ max_params → k + places_in f rest ≡ places_of h → Counted h (rest / 2) (k + 1)
        go zero p q = absurd (omega arith)
        go (suc f) p q =
            let y : k + 1 + places_in f (rest / 2) ≡ k + suc (places_in f (rest / 2)) = omega arith in
            (f, omega arith, y ∙ sym (ap (λ (b : Bool). k + cond b 0 (suc (places_in f (rest / 2)))) (ne_eqb rest 0 n)) ∙ q)

    pub counted-all : max_params ≤ k → k ≡ places_of h
    unfolding Counted
    counted-all l = go v.0 v.1 v.2
      where
        go : (f : ℕ) → k + f ≡ max_params → k + places_in f rest ≡ places_of h → k ≡ places_of h
        go zero p q = sym (add-zero k) ∙ q
        go (suc f) p q = absurd (omega arith)

    pub counted-end : max_params ≤ k → max_params ≡ places_of h
    counted-end l = let z : k ≡ max_params = omega (arith, counted-few) in sym z ∙ counted-all l
