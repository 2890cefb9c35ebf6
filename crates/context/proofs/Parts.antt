-- Laws of the parts of a list.
use mathlib.Core.List.{List, [], ◌++◌, ◌∷◌, map}
use mathlib.Core.Path.{◌∙◌, ◌≡◌, ap, ap₂, refl, sym}
use lib.ListN.{get_or-eq_default, get_or, length, set}
use lib.Seq.{get_or-set_other, get_or-set_same}
use native.Mathlib.Nat.{add-zero}
use native.Mathlib.Numerals.{add-one}
use native.Mathlib.Omega.{arith}
use Prim.Native.Nat.{◌+◌, ◌-◌, ◌<◌, ◌≤◌, suc, zero, ℕ}
use Rattle.context.specs.Parts.{part}
use Rattle.theory.proofs.Form.{at}
use Rattle.theory.specs.Lists.{All, numbers_from}

pub past : (xs : List ℕ) (i : ℕ) → length xs ≤ i → 0 ≡ get_or xs i 0
past xs i h = sym (get_or-eq_default xs 0 h)

pub part_length : (xs : List ℕ) (at n : ℕ) → length (part xs at n) ≡ n
unfolding part
part_length xs at zero = refl
part_length xs at (suc n) = ap suc (part_length xs (suc at) n)

-- a write elsewhere
pub part-set : (xs : List ℕ) (i x at n : ℕ) → ((j : ℕ) → j < n → at + j ≡ i → ⊥) → part (set xs i x) at n ≡ part xs at n
unfolding part
part-set xs i x at zero h = refl
part-set xs i x at (suc n) h =
    ap₂ ◌∷◌ (get_or-set_other xs i at x 0 (λ (e : at ≡ i). h 0 (omega arith) (omega arith)))
    (part-set xs i x (suc at) n (λ (j : ℕ) (l : j < n) (e : suc at + j ≡ i). h (suc j) (omega arith) (omega arith)))

pub part-snoc : (xs : List ℕ) (at n : ℕ) → part xs at (suc n) ≡ part xs at n ++ (get_or xs (at + n) 0 ∷ [])
unfolding part
part-snoc xs at zero = ap (λ (k : ℕ). get_or xs k 0 ∷ []) (sym (add-zero at))
part-snoc xs at (suc n) =
    ap (◌∷◌ (get_or xs at 0)) (part-snoc xs (suc at) n ∙ ap (λ (k : ℕ). part xs (suc at) n ++ (get_or xs k 0 ∷ [])) (moved at n))
  where
    moved : (a b : ℕ) → suc a + b ≡ a + suc b
    moved a b = omega arith

-- one more at the end
pub part-push : (xs : List ℕ) (at n x : ℕ) → at + n < length xs → part (set xs (at + n) x) at (n + 1) ≡ part xs at n ++ (x ∷ [])
part-push xs at n x h =
    rw (add-one n)
    (part-snoc (set xs (at + n) x) at n
    ∙ ap₂ (λ (l : List ℕ) (y : ℕ). l ++ (y ∷ [])) (part-set xs (at + n) x at n (λ (j : ℕ) (l : j < n) (e : at + j ≡ at + n). omega arith))
    (get_or-set_same xs (at + n) x 0 h))

pub map_snoc : {A B : Type 0} (f : A → B) (l : List A) (x : A) → map f (l ++ (x ∷ [])) ≡ map f l ++ (f x ∷ [])
map_snoc f [] x = refl
map_snoc f (y ∷ l) x = ap (◌∷◌ (f y)) (map_snoc f l x)

pub map_each : {A B : Type 0} (f g : A → B) (l : List A) → All (λ a. f a ≡ g a) l → map f l ≡ map g l
map_each f g [] h = refl
map_each f g (x ∷ l) h = ap₂ ◌∷◌ h.0 (map_each f g l h.1)

-- what is left from i on: one, then the rest
pub part-turn : (xs : List ℕ) (i end : ℕ) → i < end → part xs i (end - i) ≡ get_or xs i 0 ∷ part xs (i + 1) (end - (i + 1))
unfolding part
part-turn xs i end h = let e : end - i ≡ suc (end - (i + 1)) = omega arith in rw (e, add-one)

pub up_turn : (i end : ℕ) → i < end → numbers_from i (end - i) ≡ i ∷ numbers_from (i + 1) (end - (i + 1))
up_turn i end h = let e : end - i ≡ suc (end - (i + 1)) = omega arith in rw (e, add-one)

pub part_end : (xs : List ℕ) (i end : ℕ) → end ≤ i → part xs i (end - i) ≡ []
unfolding part
part_end xs i end h = let e : end - i ≡ 0 = omega arith in rw e

pub up-end : (i end : ℕ) → end ≤ i → numbers_from i (end - i) ≡ []
up-end i end h = let e : end - i ≡ 0 = omega arith in rw e
