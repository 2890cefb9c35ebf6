-- What a card says of a parameter, or of two, follows from the levels tried there: where these are alike, so is what it says.
use mathlib.Core.Bool.{not}
use mathlib.Core.List.{List}
use mathlib.Core.Path.{◌≡◌, ap}
use lib.Dec.{lit≤}
use native.Mathlib.Omega.{arith}
use Prim.Native.Nat.{◌≤◌, ℕ}
use Rattle.limits.specs.Limits.{level_count}
use Rattle.theory.proofs.Bits.{bits-same}
use Rattle.theory.proofs.Numbers.{any_same}
use Rattle.theory.specs.Card.{alone, at_zero, clashes, mask_of, raises, takes, together, weighs}
use Rattle.theory.specs.Level.{IsLevel, verdict}

-- parameter i of n, the level being f, and parameter j of m, the level being g
module _ (n m : ℕ) (f g : List ℕ → ℕ) (i j : ℕ) (alone-same : (l : ℕ) → IsLevel l → alone n f i l ≡ alone m g j l) where
  pub takes_same : (l : ℕ) → IsLevel l → takes n f i l ≡ takes m g j l
  takes_same l h = ap (λ (x : ℕ). not (verdict x)) (alone-same l h)

  pub mask-same : mask_of n f i ≡ mask_of m g j
  mask-same = bits-same level_count (takes n f i) (takes m g j) (λ l h. takes_same l (omega arith))

  pub weighs-same : at_zero n f ≡ at_zero m g → weighs n f i ≡ weighs m g j
  weighs-same zero_same = any_same (raises n f i) (raises m g j) 0 level_count (λ l h k. raises-same l (omega arith))
    where
      raises-same : (l : ℕ) → IsLevel l → raises n f i l ≡ raises m g j l
      raises-same l h = cc (zero_same, alone-same l h)

-- parameters i and j of n, and p and q of m
module _ (n m : ℕ) (f g : List ℕ → ℕ) (i j p q : ℕ) (first : (l : ℕ) → IsLevel l → alone n f i l ≡ alone m g p l) (second : (l : ℕ) → IsLevel l → alone n f j l ≡ alone m g q l)
    (both : (a b : ℕ) → IsLevel a → IsLevel b → together n f i a j b ≡ together m g p a q b) where
  pub clashes-same : clashes n f i j ≡ clashes m g p q
  clashes-same =
      let two : 2 ≤ 4 = lit≤ tt in
      let three : 3 ≤ 4 = lit≤ tt in
      cc (first 2 two, first 3 three, second 2 two, second 3 three, both 2 3 two three, both 3 2 three two)
