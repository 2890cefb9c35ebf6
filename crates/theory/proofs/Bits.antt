-- Numbers by their bits: what is put at a bit is read there.
use mathlib.Core.Bool.{Bool, cond, false, true}
use mathlib.Core.Path.{◌∙◌, ◌≡◌, ap, ap₂, refl, sym}
use lib.Dec.{eqb}
use native.Mathlib.Decide.{dec_lt}
use native.Mathlib.Nat.{add-zero, div-div-eq-div-mul, mul_assoc, mul-one, mul-zero, one-mul, pow-succ', suc-add, zero-add}
use native.Mathlib.Omega.{arith}
use Prim.Native.Nat.{◌%◌, ◌*◌, ◌+◌, ◌/◌, ◌<◌, ◌^◌, suc, zero, ℕ}
use Rattle.theory.specs.Card.{bit, bit_if, bits_below, of_four_bytes}

-- a number's next bit is the bit of its half
next_bit : (x k : ℕ) → bit x (suc k) ≡ bit (x / 2) k
next_bit x k = ap (λ (y : ℕ). eqb (y % 2) 1) (ap (◌/◌ x) (pow-succ' 2 k) ∙ sym (div-div-eq-div-mul x 2 (2 ^ k)))

pub power-sum : (a k : ℕ) → 2 ^ (a + k) ≡ 2 ^ a * 2 ^ k
power-sum zero k = ap (◌^◌ 2) (zero-add k) ∙ sym (one-mul (2 ^ k))
power-sum (suc a) k =
    ap (◌^◌ 2) (suc-add a k) ∙ pow-succ' 2 (a + k) ∙ ap (◌*◌ 2) (power-sum a k) ∙ sym (mul_assoc 2 (2 ^ a) (2 ^ k)) ∙ ap (λ (y : ℕ). y * 2 ^ k) (sym (pow-succ' 2 a))

-- half of x, with y from bit a + 1 on, is half of x, with y from bit a on
half : (x y a : ℕ) → (x + 2 ^ suc a * y) / 2 ≡ x / 2 + 2 ^ a * y
half x y a = ap (λ (z : ℕ). (x + z) / 2) (ap (λ (z : ℕ). z * y) (pow-succ' 2 a) ∙ mul_assoc 2 (2 ^ a) y) ∙ go (2 ^ a * y)
  where
    go : (z : ℕ) → (x + 2 * z) / 2 ≡ x / 2 + z
    go z = omega arith

-- x, with y from bit a on: below that the bits are x's,
pub bit-under : (a k x y : ℕ) → k < a → bit (x + 2 ^ a * y) k ≡ bit x k
bit-under zero k x y h = absurd (omega arith)
bit-under (suc a) zero x y h = ap (λ (z : ℕ). eqb z 1) (ap (λ (z : ℕ). (x + z) / 1 % 2) (ap (λ (z : ℕ). z * y) (pow-succ' 2 a) ∙ mul_assoc 2 (2 ^ a) y) ∙ go (2 ^ a * y))
  where
    go : (z : ℕ) → (x + 2 * z) / 1 % 2 ≡ x / 1 % 2
    go z = omega arith
bit-under (suc a) (suc k) x y h =
    next_bit (x + 2 ^ suc a * y) k ∙ ap (λ (z : ℕ). bit z k) (half x y a) ∙ bit-under a k (x / 2) y (omega arith) ∙ sym (next_bit x k)

-- and from there on y's, if x has no more
pub bit-over : (a k x y : ℕ) → x < 2 ^ a → bit (x + 2 ^ a * y) (a + k) ≡ bit y k
bit-over zero k x y h =
    let e : x + 1 * y ≡ y = omega arith in
    ap₂ bit e (zero-add k)
bit-over (suc a) k x y h =
    ap (bit (x + 2 ^ suc a * y)) (suc-add a k) ∙ next_bit (x + 2 ^ suc a * y) (a + k) ∙ ap (λ (z : ℕ). bit z (a + k)) (half x y a)
    ∙ bit-over a k (x / 2) y (go (2 ^ a) (rw (pow-succ' 2 a) at h))
  where
    go : (z : ℕ) → x < 2 * z → x / 2 < z
    go z h = omega arith

bit-if : (b : Bool) (k : ℕ) → bit_if b k ≡ 2 ^ k * cond b 1 0
bit-if true k = sym (mul-one (2 ^ k))
bit-if false k = sym (mul-zero (2 ^ k))

-- Bits below n

pub bits-same : (n : ℕ) (p q : ℕ → Bool) → ((k : ℕ) → k < n → p k ≡ q k) → bits_below n p ≡ bits_below n q
bits-same zero p q e = refl
bits-same (suc n) p q e = ap₂ ◌+◌ (bits-same n p q (λ k h. e k (omega arith))) (ap (λ (b : Bool). bit_if b n) (e n (omega arith)))

pub bits-low : (n : ℕ) (p : ℕ → Bool) → bits_below n p < 2 ^ n
bits-low zero p = omega arith
bits-low (suc n) p = rw (pow-succ' 2 n) (go (p n) (bits_below n p) (2 ^ n) (bits-low n p))
  where
    go : (b : Bool) (x y : ℕ) → x < y → x + cond b y 0 < 2 * y
    go true x y h = omega arith
    go false x y h = omega arith

pub bit_below : (n k : ℕ) (p : ℕ → Bool) → k < n → bit (bits_below n p) k ≡ p k
bit_below zero k p h = absurd (omega arith)
bit_below (suc n) k p h = ap (λ (y : ℕ). bit (bits_below n p + y) k) (bit-if (p n) n) ∙ go (dec_lt k n) (bit_below n k p)
  where
    one : (b : Bool) → bit (cond b 1 0) 0 ≡ b
    one true = refl
    one false = refl

    go : Dec (k < n) → (k < n → bit (bits_below n p) k ≡ p k) → bit (bits_below n p + 2 ^ n * cond (p n) 1 0) k ≡ p k
    go (yes l) before = bit-under n k (bits_below n p) (cond (p n) 1 0) l ∙ before l
    go (no l) before =
        let e : k ≡ n = omega arith in
        ap (bit (bits_below n p + 2 ^ n * cond (p n) 1 0)) (e ∙ sym (add-zero n)) ∙ bit-over n 0 (bits_below n p) (cond (p n) 1 0) (bits-low n p) ∙ one (p n) ∙ ap p (sym e)

-- "big-endian"
pub four_bytes : (x : ℕ) → x < 2 ^ 32 → of_four_bytes (x / 2 ^ 24 % 256) (x / 2 ^ 16 % 256) (x / 2 ^ 8 % 256) (x % 256) ≡ x
four_bytes x h =
    let two : x / 2 ^ 16 ≡ x / 256 / 256 = sym (div-div-eq-div-mul x 256 256) in
    let three : x / 2 ^ 24 ≡ x / 256 / 256 / 256 = sym (div-div-eq-div-mul x (2 ^ 16) 256) ∙ ap (λ (y : ℕ). y / 256) two in
    let low : x / 2 ^ 24 % 256 ≡ x / 256 / 256 / 256 = first x h ∙ three in
    rw (low, two) (sum (x / 256 / 256 / 256) _ _ _ x _ _ (parts x) (parts (x / 256)) (parts (x / 256 / 256)))
  where
    first : (x : ℕ) → x < 2 ^ 32 → x / 2 ^ 24 % 256 ≡ x / 2 ^ 24
    first x h = omega arith

    parts : (x : ℕ) → x ≡ 256 * (x / 256) + x % 256
    parts x = omega arith

    sum : (a b c d x y z : ℕ) → x ≡ 256 * y + d → y ≡ 256 * z + c → z ≡ 256 * a + b → of_four_bytes a b c d ≡ x
    sum a b c d x y z e f g = omega arith
