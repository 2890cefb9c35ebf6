-- Two parts of the card memory, byte after byte.
use borrow.Author.Tests.{eq-eqb, ne_eqb}
use mathlib.Core.Bool.{Bool, false, true, ◌&&◌}
use mathlib.Core.List.{List, [], ◌∷◌}
use mathlib.Core.Path.{◌∙◌, ◌≡◌, ap, ap₂, refl, sym}
use Prim.Native.Nat.{ℕ, suc, ◌+◌, ◌-◌, ◌≤◌, ◌<◌}
use native.Mathlib.Numerals.{add-one}
use native.Mathlib.Omega.{arith}
use lib.Dec.{eqb}
use lib.ListN.{get_or, length}
use Rattle.theory.specs.Lists.{same_numbers}
use Rattle.queries.specs.Replies.{same_from}

module _ (m : List ℕ) (p q : ℕ) where
  -- one byte, of those up to the n-th
  same-one : (n i : ℕ) → i < n → same_from m p q i (n - i) ≡ (eqb (get_or m (p + i) 0) (get_or m (q + i) 0) && same_from m p q (i + 1) (n - (i + 1)))
  unfolding same_from
  same-one n i l =
      let z : n - i ≡ suc (n - (i + 1)) = omega arith in
      ap (same_from m p q i) z ∙ ap (λ (j : ℕ). eqb (get_or m (p + i) 0) (get_or m (q + i) 0) && same_from m p q j (n - (i + 1))) (sym (add-one i))

  pub same_next : (n i : ℕ) (w : Bool) → i < n → get_or m (p + i) 0 ≡ get_or m (q + i) 0 → same_from m p q i (n - i) ≡ w → same_from m p q (i + 1) (n - (i + 1)) ≡ w
  same_next n i w l e f =
      ap (λ (b : Bool). b && same_from m p q (i + 1) (n - (i + 1))) (sym (eq-eqb (get_or m (p + i) 0) (get_or m (q + i) 0) e)) ∙ sym (same-one n i l) ∙ f

  pub same_differs : (n i : ℕ) (w : Bool) → i < n → (get_or m (p + i) 0 ≡ get_or m (q + i) 0 → ⊥) → same_from m p q i (n - i) ≡ w → false ≡ w
  same_differs n i w l e f =
      ap (λ (b : Bool). b && same_from m p q (i + 1) (n - (i + 1))) (sym (ne_eqb (get_or m (p + i) 0) (get_or m (q + i) 0) e)) ∙ sym (same-one n i l) ∙ f

  pub same_end : (n i : ℕ) (w : Bool) → n ≤ i → same_from m p q i (n - i) ≡ w → true ≡ w
  unfolding same_from
  same_end n i w l f = let z : 0 ≡ n - i = omega arith in ap (same_from m p q i) z ∙ f

  -- the parts that hold two lists are the same if the lists are
  pub same_lists : (i : ℕ) (xs ys : List ℕ) → length xs ≡ length ys → ((j : ℕ) → j < length xs → get_or m (p + (i + j)) 0 ≡ get_or xs j 0)
      → ((j : ℕ) → j < length ys → get_or m (q + (i + j)) 0 ≡ get_or ys j 0) → same_from m p q i (length xs) ≡ same_numbers xs ys
  unfolding same_from
  same_lists i [] [] l f g = refl
  same_lists i [] (y ∷ ys) l f g = absurd (omega arith)
  same_lists i (x ∷ xs) [] l f g = absurd (omega arith)
  same_lists i (x ∷ xs) (y ∷ ys) l f g =
      let u : p + i ≡ p + (i + 0) = omega arith in
      let v : q + i ≡ q + (i + 0) = omega arith in
      ap₂ (λ (a b : Bool). a && b)
      (ap₂ eqb (ap (λ (k : ℕ). get_or m k 0) u ∙ f 0 (omega arith)) (ap (λ (k : ℕ). get_or m k 0) v ∙ g 0 (omega arith)))
      (same_lists (suc i) xs ys (omega arith)
      (λ j k. ap (λ (n : ℕ). get_or m n 0) (let z : p + (suc i + j) ≡ p + (i + suc j) = omega arith in z) ∙ f (suc j) (omega arith))
      (λ j k. ap (λ (n : ℕ). get_or m n 0) (let z : q + (suc i + j) ≡ q + (i + suc j) = omega arith in z) ∙ g (suc j) (omega arith)))
