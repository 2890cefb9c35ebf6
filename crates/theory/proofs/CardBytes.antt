-- What is read at a card's bytes is what they were found to be, for any number of parameters.
use mathlib.Core.Bool.{Bool, false, true}
use mathlib.Core.List.{List, ◌++◌, map}
use mathlib.Core.Path.{◌∙◌, ◌≡◌, ap, ap₂, refl, subst, sym}
use lib.Dec.{lit≤}
use lib.ListN.{get_or-append, get_or, replicate}
use lib.Seq.{get_or-append-add}
use native.Mathlib.Decide.{dec_lt}
use native.Mathlib.Nat.{le_trans, mul-add, mul-le-mul, mul-le-mul_left, mul-suc, mul-zero, pow-le-pow_right, suc-mul, zero-add}
use native.Mathlib.Omega.{arith}
use Prim.Native.Nat.{◌*◌, ◌+◌, ◌-◌, ◌/◌, ◌<◌, ◌^◌, ◌≤◌, suc, zero, ℕ}
use Rattle.limits.specs.Limits.{level_count, max_arity}
use Rattle.theory.proofs.Bits.{bit_below, bit-over, bit-under, bits-low, four_bytes, power-sum}
use Rattle.theory.proofs.Cards.{all_masks, last_bytes, masks-length}
use Rattle.theory.proofs.Numbers.{numbers-at, numbers-length}
use Rattle.theory.specs.Card.{bit, bit_if, bits_below, card_of, clashes, is_pair, is_taken, is_weighted, mask_of, of_four_bytes, pair_bit, pairs_below, pairs_with, takes, weighs}
use Rattle.theory.specs.Level.{IsLevel}
use Rattle.theory.specs.Lists.{numbers_from}

-- where the pair bits of parameter j begin
abbrev triangle : ℕ → ℕ
triangle j = j * (j - 1) / 2

triangle-next : (j : ℕ) → triangle (suc j) ≡ triangle j + j
triangle-next zero = refl
triangle-next (suc k) =
    let a : suc k - 1 ≡ k = omega arith in
    let b : suc (suc k) - 1 ≡ suc k = omega arith in
    rw (a, b, suc-mul (suc k) (suc k), mul-suc (suc k) k, suc-mul k k) (omega arith)

pair-below : (m i j : ℕ) → i < j → j < m → pair_bit i j < triangle m
pair-below zero i j h k = absurd (omega arith)
pair-below (suc m) i j h k = rw (triangle-next m) (go (dec_lt j m) (pair-below m i j h))
  where
    go : Dec (j < m) → (j < m → pair_bit i j < triangle m) → pair_bit i j < triangle m + m
    go (yes d) before = le_trans (before d) (omega arith)
    go (no d) before =
        let e : j ≡ m = omega arith in
        subst (λ (k : ℕ). triangle j + i < triangle k + k) e (omega arith)

-- eight parameters make 28 pairs
few-pairs : (n : ℕ) → n ≤ max_arity → triangle n ≤ 28
few-pairs n fits =
    let most : n * (n - 1) ≤ 8 * 7 = mul-le-mul {n₁ = n} {m₁ = n - 1} {n₂ = 8} {m₂ = 7} fits (omega arith) in
    half (n * (n - 1)) most
  where
    half : (x : ℕ) → x ≤ 56 → x / 2 ≤ 28
    half x h = omega arith

bit-sum : (b : Bool) (a k : ℕ) → bit_if b (a + k) ≡ 2 ^ a * bit_if b k
bit-sum true a k = power-sum a k
bit-sum false a k = sym (mul-zero (2 ^ a))

module _ (n : ℕ) (f : List ℕ → ℕ) where
  abbrev pairs_of : ℕ → ℕ → ℕ
  pairs_of j i = bits_below i (λ k. clashes n f k j)

  -- the pair bits of parameter j stand side by side, after those of the parameters before it
  pairs-with : (j i : ℕ) → pairs_with n f j i ≡ 2 ^ triangle j * pairs_of j i
  pairs-with j zero = sym (mul-zero (2 ^ triangle j))
  pairs-with j (suc i) =
      ap₂ ◌+◌ (pairs-with j i) (bit-sum (clashes n f i j) (triangle j) i)
      ∙ sym (mul-add (2 ^ triangle j) (pairs_of j i) (bit_if (clashes n f i j) i))

  pairs-low : (m : ℕ) → pairs_below n f m < 2 ^ triangle m
  pairs-low zero = omega arith
  pairs-low (suc m) =
      rw (pairs-with m m, triangle-next m, power-sum (triangle m) m)
      (go (pairs_below n f m) (2 ^ triangle m) (pairs_of m m) (2 ^ m) (pairs-low m) (bits-low m (λ k. clashes n f k m)))
    where
      go : (x a y b : ℕ) → x < a → y < b → x + a * y < a * b
      go x a y b h k =
          let l : a * suc y ≤ a * b = mul-le-mul_left a k in
          omega (arith, l, mul-suc a y)

  pair-at : (m i j : ℕ) → i < j → j < m → bit (pairs_below n f m) (pair_bit i j) ≡ clashes n f i j
  pair-at zero i j h k = absurd (omega arith)
  pair-at (suc m) i j h k = ap (λ (y : ℕ). bit (pairs_below n f m + y) (pair_bit i j)) (pairs-with m m) ∙ go (dec_lt j m) (pair-at m i j h)
    where
      go : Dec (j < m) → (j < m → bit (pairs_below n f m) (pair_bit i j) ≡ clashes n f i j)
          → bit (pairs_below n f m + 2 ^ triangle m * pairs_of m m) (pair_bit i j) ≡ clashes n f i j
      go (yes d) before = bit-under (triangle m) (pair_bit i j) (pairs_below n f m) (pairs_of m m) (pair-below m i j h d) ∙ before d
      go (no d) before =
          let e : m ≡ j = omega arith in
          subst (λ (j : ℕ). bit (pairs_below n f m + 2 ^ triangle m * pairs_of m m) (pair_bit i j) ≡ clashes n f i j) e
          (bit-over (triangle m) i (pairs_below n f m) (pairs_of m m) (pairs-low m) ∙ bit_below m i (λ k. clashes n f k m) (omega arith))

  abbrev pub byte_at : ℕ → ℕ
  byte_at k = get_or (card_of n f) k 0

  module _ (fits : n ≤ max_arity) where
    mask-byte : (i : ℕ) → i < n → byte_at (3 + i) ≡ mask_of n f i
    unfolding card_of
    mask-byte i h =
        let e : 3 + i ≡ suc (suc (suc i)) = omega arith in
        ap byte_at e ∙ get_or-append (all_masks n f) (last_bytes n f) 0 i (omega (arith, masks-length n f fits))
        ∙ get_or-append (map (mask_of n f) (numbers_from 0 n)) (replicate (max_arity - n) 0) 0 i (omega (arith, numbers-length (mask_of n f) 0 n))
        ∙ numbers-at (mask_of n f) 0 0 n i h ∙ ap (mask_of n f) (zero-add i)

    last_byte : (k : ℕ) → get_or (all_masks n f ++ last_bytes n f) (max_arity + k) 0 ≡ get_or (last_bytes n f) k 0
    last_byte k = ap (λ (m : ℕ). get_or (all_masks n f ++ last_bytes n f) (m + k) 0) (sym (masks-length n f fits)) ∙ get_or-append-add (all_masks n f) (last_bytes n f) k 0

    pairs-bytes : of_four_bytes (byte_at 11) (byte_at 12) (byte_at 13) (byte_at 14) ≡ pairs_below n f n
    unfolding card_of
    pairs-bytes =
        let few : triangle n ≤ 32 = le_trans (few-pairs n fits) (lit≤ tt) in
        rw (last_byte 0, last_byte 1, last_byte 2, last_byte 3) (four_bytes (pairs_below n f n) (le_trans (pairs-low n) (pow-le-pow_right (omega arith) few)))

    pub taken-byte : (i l : ℕ) → i < n → IsLevel l → is_taken byte_at i l ≡ takes n f i l
    taken-byte i l h k = ap (λ (x : ℕ). bit x l) (mask-byte i h) ∙ bit_below level_count l (takes n f i) (omega arith)

    pub weighted-byte : (i : ℕ) → i < n → is_weighted byte_at i ≡ weighs n f i
    unfolding card_of
    weighted-byte i h = bit_below n i (weighs n f) h

    pub pair-byte : (i j : ℕ) → i < j → j < n → is_pair byte_at i j ≡ clashes n f i j
    pair-byte i j h k = ap (λ (x : ℕ). bit x (pair_bit i j)) pairs-bytes ∙ pair-at n i j h k
