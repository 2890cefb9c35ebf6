-- The digits of a card, byte after byte.
use mathlib.Core.List.{List, [], ◌∷◌, ◌++◌}
use mathlib.Core.Path.{◌≡◌, ◌∙◌, ap, refl, sym}
use Prim.Native.Nat.{ℕ, ◌%◌, ◌*◌, ◌+◌, ◌/◌, ◌≤◌, ◌<◌}
use native.Mathlib.Numerals.{add-one}
use native.Mathlib.Omega.{arith}
use borrow.Author.Tests.{le-ltb, lt-ltb}
use lib.ListN.{get_or, length, take}
use lib.Seq.{length-sets, length-take-le, take_all, take-suc}
use Rattle.limits.specs.Limits.{card_bytes, max_arity}
use Rattle.theory.proofs.Cards.{card-length}
use Rattle.theory.specs.Card.{card_of}
use Rattle.rules.specs.Listing.{hex_digit, hexadecimal}
use Rattle.lines.specs.Text.{card_digits}
use Rattle.lines.specs.Writes.{Writes}
use Rattle.lines.proofs.Writing.{writes_as, writes_then}

pub digit_low : (d : ℕ) → d < 10 → 48 + d ≡ hex_digit d
digit_low d h = rw (lt-ltb d 10 h) refl

pub digit-high : (d : ℕ) → 10 ≤ d → 87 + d ≡ hex_digit d
digit-high d h = rw (le-ltb d 10 h) refl

pub two-put : (b : ℕ) (o₀ o₁ o₂ : List ℕ) (at p r x y : ℕ) → x ≡ hex_digit (b / 16) → y ≡ hex_digit (b % 16) → Writes o₀ o₁ at (x ∷ []) p → Writes o₁ o₂ p (y ∷ []) r
    → Writes o₀ o₂ at (hex_digit (b / 16) ∷ hex_digit (b % 16) ∷ []) r
two-put b o₀ o₁ o₂ at p r x y ex ey u w = rw (sym ex, sym ey) (writes_then u w)

hex-append : (xs ys : List ℕ) → hexadecimal (xs ++ ys) ≡ hexadecimal xs ++ hexadecimal ys
hex-append [] ys = refl
hex-append (x ∷ xs) ys = ap (λ (l : List ℕ). hex_digit (x / 16) ∷ hex_digit (x % 16) ∷ l) (hex-append xs ys)

hex-length : (xs : List ℕ) → length (hexadecimal xs) ≡ 2 * length xs
hex-length [] = refl
hex-length (x ∷ xs) = omega (arith, hex-length xs)

-- The digits of the first k bytes are put.
pub record Spelt (n : ℕ) (level : List ℕ → ℕ) (before : List ℕ) (at : ℕ) (after : List ℕ) (next k : ℕ) : Type 0 where
  pub up_to : k ≤ card_bytes
  pub put : Writes before after at (hexadecimal (take k (card_of n level))) next

pub spelt-start : (n : ℕ) (f : List ℕ → ℕ) (out : List ℕ) (at : ℕ) → Spelt n f out at out at 0
spelt-start n f out at = record { up_to = omega arith; put = record { same = refl; ends = omega arith } }

module _ {n : ℕ} {f : List ℕ → ℕ} {before : List ℕ} {at : ℕ} {after : List ℕ} {next k : ℕ} (inv : Spelt n f before at after next k) where
  pub spelt-length : length after ≡ length before
  spelt-length = ap length inv.put.same ∙ length-sets before at (hexadecimal (take k (card_of n f)))

  module _ (few : n ≤ max_arity) where
    whole : length (card_of n f) ≡ card_bytes
    whole = card-length n f few

    pub spelt-room : next ≡ at + 2 * k
    spelt-room =
        inv.put.ends ∙ ap (λ (j : ℕ). at + j) (hex-length (take k (card_of n f)) ∙ ap (λ (j : ℕ). 2 * j) (length-take-le k (card_of n f) (omega (arith, inv.up_to, whole))))

    pub spelt-turn : {bytes after' : List ℕ} {next' b : ℕ} → k < card_bytes → bytes ≡ card_of n f → b ≡ get_or bytes k 0
        → Writes after after' next (hex_digit (b / 16) ∷ hex_digit (b % 16) ∷ []) next' → Spelt n f before at after' next' (k + 1)
    spelt-turn {bytes} {after'} {next'} {b} h same e w = record {
      up_to = omega arith;
      put = writes_as (writes_then inv.put w)
          (sym (hex-append (take k (card_of n f)) (b ∷ [])) ∙ ap (λ (x : ℕ). hexadecimal (take k (card_of n f) ++ (x ∷ []))) (e ∙ ap (λ (l : List ℕ). get_or l k 0) same)
          ∙ ap hexadecimal (sym (take-suc (card_of n f) k 0 (omega (arith, whole))) ∙ ap (λ (j : ℕ). take j (card_of n f)) (sym (add-one k))));
    }

    pub spelt-done : card_bytes ≤ k → Writes before after at (card_digits n f) next × (next ≤ at + 2 * card_bytes)
    spelt-done h =
        (writes_as inv.put (ap hexadecimal (take_all k (card_of n f) (omega (arith, whole)))), omega (arith, spelt-room, inv.up_to))
