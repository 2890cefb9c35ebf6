-- Hexadecimal digits: which bytes spell a row of bytes, that `hexadecimal` gives them, and that no others do. Text is ASCII.
use borrow.Author.Tests.{le-ltb, lt-ltb, ltb-false, ltb-true}
use mathlib.Core.Bool.{Bool, cond, false, true}
use mathlib.Core.List.{List, [], ◌∷◌}
use mathlib.Core.Logic.{◌⊎◌, inl, inr, ⊎_elim}
use mathlib.Core.Path.{◌∙◌, ◌≡◌, ap, ap₂, refl}
use lib.Dec.{ltb}
use lib.ListN.{length}
use native.Mathlib.Omega.{arith}
use Prim.Native.Nat.{◌%◌, ◌*◌, ◌+◌, ◌-◌, ◌/◌, ◌<◌, ◌≤◌, ℕ}
use Rattle.rules.specs.Listing.{hex_digit, hexadecimal}
use Rattle.theory.specs.Lists.{All}

-- "lower-case hexadecimal digits": 0 to 9 and a to f
abbrev pub IsHexDigit : ℕ → Type 0
IsHexDigit c = ((48 ≤ c) × (c ≤ 57)) ⊎ ((97 ≤ c) × (c ≤ 102))

-- what a digit counts, and the bytes that digits spell, the higher digit of each first
abbrev pub hex_value : ℕ → ℕ
hex_value c = cond (ltb c 97) (c - 48) (c - 87)

abbrev pub bytes_of_hex : List ℕ → List ℕ
bytes_of_hex [] = []
bytes_of_hex (c ∷ []) = []
bytes_of_hex (c ∷ d ∷ cs) = (16 * hex_value c + hex_value d) ∷ bytes_of_hex cs

-- These are the digits of the bytes bs: two for each, and bs is what they spell.
pub record HexDigits (bs cs : List ℕ) : Type 0 where
  pub only-digits : All IsHexDigit cs
  pub two-each : length cs ≡ 2 * length bs
  pub spells : bytes_of_hex cs ≡ bs

low_value : (c : ℕ) → c < 97 → hex_value c ≡ c - 48
low_value c h = rw (lt-ltb c 97 h) refl

high_value : (c : ℕ) → 97 ≤ c → hex_value c ≡ c - 87
high_value c h = rw (le-ltb c 97 h) refl

digit-right : (d : ℕ) → d < 16 → IsHexDigit (hex_digit d) × (hex_value (hex_digit d) ≡ d)
digit-right d h = go (ltb d 10) refl
  where
    go : (b : Bool) → ltb d 10 ≡ b → IsHexDigit (cond b (48 + d) (87 + d)) × (hex_value (cond b (48 + d) (87 + d)) ≡ d)
    go true q =
        let k = ltb-true d 10 q in
        (inl (omega arith), low_value (48 + d) (omega arith) ∙ omega arith)
    go false q =
        let k = ltb-false d 10 q in
        (inr (omega arith), high_value (87 + d) (omega arith) ∙ omega arith)

pub hexadecimal-exact : (bs : List ℕ) → All (λ b. b < 256) bs → HexDigits bs (hexadecimal bs)
hexadecimal-exact [] a = record { only-digits = tt; two-each = refl; spells = refl }
hexadecimal-exact (b ∷ bs) a =
    let rest = hexadecimal-exact bs a.1 in
    let (h, hv) = digit-right (b / 16) (omega (arith, a.0)) in
    let (l, lv) = digit-right (b % 16) (omega arith) in
    let value : 16 * hex_value (hex_digit (b / 16)) + hex_value (hex_digit (b % 16)) ≡ b = rw (hv, lv) (omega arith) in
    record { only-digits = (h, (l, rest.only-digits)); two-each = omega (arith, rest.two-each); spells = ap₂ ◌∷◌ value rest.spells }

-- a digit is that of its value
digit-of : (c : ℕ) → IsHexDigit c → (hex_value c < 16) × (c ≡ hex_digit (hex_value c))
digit-of c h = ⊎_elim low high h
  where
    low : (48 ≤ c) × (c ≤ 57) → (hex_value c < 16) × (c ≡ hex_digit (hex_value c))
    low (l, m) =
        let v = low_value c (omega arith) in
        let small : hex_value c < 10 = omega arith in
        (omega arith, rw (lt-ltb (hex_value c) 10 small) (omega arith))

    high : (97 ≤ c) × (c ≤ 102) → (hex_value c < 16) × (c ≡ hex_digit (hex_value c))
    high (l, m) =
        let v = high_value c (omega arith) in
        let large : 10 ≤ hex_value c = omega arith in
        (omega arith, rw (le-ltb (hex_value c) 10 large) (omega arith))

pub one-hexadecimal : (bs cs : List ℕ) → HexDigits bs cs → cs ≡ hexadecimal bs
one-hexadecimal [] [] h = refl
one-hexadecimal [] (c ∷ cs) h = absurd (omega (arith, h.two-each))
one-hexadecimal (b ∷ bs) [] h = absurd (omega (arith, h.two-each))
one-hexadecimal (b ∷ bs) (c ∷ []) h = absurd (omega (arith, h.two-each))
one-hexadecimal (b ∷ bs) (c ∷ d ∷ cs) h =
    let e = h.spells in
    let value : 16 * hex_value c + hex_value d ≡ b = cc in
    let (small, c-is) = digit-of c h.only-digits.0 in
    let (small', d-is) = digit-of d h.only-digits.1.0 in
    let high : hex_value c ≡ b / 16 = omega arith in
    let low : hex_value d ≡ b % 16 = omega arith in
    ap₂ ◌∷◌ (c-is ∙ ap hex_digit high)
    (ap₂ ◌∷◌ (d-is ∙ ap hex_digit low)
    (one-hexadecimal bs cs (record { only-digits = h.only-digits.1.1; two-each = omega (arith, h.two-each); spells = cc })))
