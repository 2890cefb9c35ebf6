-- Labels: what becomes of a parameter's level at all the places where the parameter stands. A place has no mask above it, or one that refuses 2, or 3, or both.
use mathlib.Core.Bool.{Bool, ◌&&◌, ◌||◌, cond, false, not, true}
use mathlib.Core.List.{[], ◌∷◌}
use mathlib.Core.Option.{Option, none, some}
use mathlib.Core.Path.{◌≡◌}
use lib.Dec.{T, eqb, eqb→eq, leb, leb→le}
use Prim.Native.Nat.{ℕ}
use Rattle.theory.proofs.Finite.{at_level, at_levels}
use Rattle.theory.proofs.Lists.{and_parts}
use Rattle.theory.specs.Lattice.{higher}
use Rattle.theory.specs.Level.{IsLevel, Mask, highest, not_transition, taken, up_to2}
use Rattle.theory.specs.NearestMask.{behind}

-- it stands where there is no mask above; under one that refuses 2; under one that refuses 3
pub data Label : Type 0 where
  label : Bool → Bool → Bool → Label

-- the level that a parameter so labelled, at level l, adds
abbrev pub act : Label → ℕ → ℕ
act (label free no2 no3) l = highest (cond free l 0 ∷ cond no2 (behind (some not_transition) l) 0 ∷ cond no3 (behind (some up_to2) l) 0 ∷ [])

-- of a parameter that stands nowhere; of one that stands here or there
abbrev pub nowhere : Label
nowhere = label false false false

abbrev pub or : Label → Label → Label
or (label a b c) (label x y z) = label (a || x) (b || y) (c || z)

-- of a place, by the nearest mask above it
abbrev pub label_of : Option Mask → Label
label_of none = label true false false
label_of (some m) = label false (not (taken m 2)) (not (taken m 3))

-- A law of labels is tried at all eight.

abbrev both_ways : (Bool → Bool) → Bool
both_ways p = p true && p false

abbrev pub at_labels : (Label → Bool) → Bool
at_labels p = both_ways λ a. both_ways λ b. both_ways λ c. p (label a b c)

way : (p : Bool → Bool) → T (both_ways p) → (b : Bool) → T (p b)
way p t true = (and_parts (p true) (p false) t).0
way p t false = (and_parts (p true) (p false) t).1

pub at_label : (p : Label → Bool) → T (at_labels p) → (w : Label) → T (p w)
at_label p t (label a b c) =
    way (λ c. p (label a b c)) (way (λ b. both_ways λ c. p (label a b c)) (way (λ a. both_ways λ b. both_ways λ c. p (label a b c)) t a) b) c

pub act-level : (w : Label) (l : ℕ) → IsLevel l → IsLevel (act w l)
act-level w l h = leb→le (act w l) 4 (at_level (λ l. leb (act w l) 4) (at_label (λ w. at_levels λ l. leb (act w l) 4) tt w) l h)

pub act-zero : (w : Label) → act w 0 ≡ 0
act-zero w = eqb→eq (act w 0) 0 (at_label (λ w. eqb (act w 0) 0) tt w)

pub act-or : (w u : Label) (l : ℕ) → IsLevel l → act (or w u) l ≡ higher (act w l) (act u l)
act-or w u l h = eqb→eq (act (or w u) l) (higher (act w l) (act u l)) (at_level (test w u) (at_label (λ u. at_levels (test w u)) (at_label (λ w. at_labels λ u. at_levels (test w u)) tt w) u) l h)
  where
    test : Label → Label → ℕ → Bool
    test w u l = eqb (act (or w u) l) (higher (act w l) (act u l))
