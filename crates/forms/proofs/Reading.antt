-- Reading a form at levels, a digit at a time.
use mathlib.Core.Path.{◌≡◌, refl, sym, ap, ap₂, ◌∙◌}
use mathlib.Core.List.{List, [], ◌∷◌, ◌++◌}
use Prim.Native.Nat.{ℕ, zero, suc, ◌+◌, ◌-◌, ◌/◌, ◌%◌, ◌≤◌, ◌<◌}
use native.Mathlib.Omega.{arith}
use lib.Bits.{bit_or, or_lt, or_zero_r}
use lib.ListN.{drop, drop_of_length-le, get_or, length, replicate}
use lib.Seq.{drop-cons}
use native.Mathlib.Numerals.{add-one}
use Rattle.forms.specs.Labels.{Digit, coded, level_of, under, whole}
use Rattle.forms.specs.Forms.{bits_at, gives, level_at}
use Rattle.forms.proofs.Finite.{same}
use Rattle.forms.proofs.Laws.{level-whole, or_assoc, under-digit, under-zero, whole-digit, whole-or}
use Rattle.forms.proofs.Forms.{gives_whole}

-- ---- levels and bits

pub bits-low : (l : ℕ) → l < 2 → Digit (coded l) l
bits-low l h = record { same = same 2 (λ x. x) coded tt l h; low = omega arith }

pub bits-two : (l : ℕ) → l ≡ 2 → Digit (coded l) 3
bits-two l e = rw e record { same = refl; low = omega arith }

pub bits-three : (l : ℕ) → l ≡ 3 → Digit (coded l) 5
bits-three l e = rw e record { same = refl; low = omega arith }

pub bits-high : (l : ℕ) → 2 ≤ l → (l ≡ 2 → ⊥) → (l ≡ 3 → ⊥) → Digit (coded l) 7
bits-high zero a b c = absurd (omega arith)
bits-high (suc zero) a b c = absurd (omega arith)
bits-high (suc (suc zero)) a b c = absurd (b refl)
bits-high (suc (suc (suc zero))) a b c = absurd (c refl)
bits-high (suc (suc (suc (suc n)))) a b c = record { same = refl; low = omega arith }

pub level-low-bits : (b : ℕ) → b < 2 → b ≡ level_of b
unfolding level_of
level-low-bits b h = same 2 (λ x. x) level_of tt b h

pub level-high-bits : (b : ℕ) → b < 8 → 2 ≤ b → b / 2 + 1 ≡ level_of b
unfolding level_of
level-high-bits b h k =
    let e : b ≡ b - 2 + 2 = omega arith in
    ap (λ (x : ℕ). x / 2 + 1) e ∙ same 6 (λ x. (x + 2) / 2 + 1) (λ x. level_of (x + 2)) tt (b - 2) (omega arith) ∙ sym (ap level_of e)

-- ---- the level

start : (w y : ℕ) → whole y ≡ y → level_of (bit_or (w % 8) y) ≡ level_of (bit_or (whole w) y)
start w y e =
    sym (level-whole (bit_or (w % 8) y)) ∙ ap level_of (whole-or (w % 8) y ∙ ap₂ bit_or (whole-digit w) e)

pub at-start : (w : ℕ) (v : List ℕ) → level_of (bit_or (w % 8) (gives (w / 8) v)) ≡ level_at w v
unfolding level_at bits_at
at-start w v = start w (gives (w / 8) v) (gives_whole (w / 8) v)

pub gives-zeros : (w n : ℕ) → gives w (replicate n 0) ≡ 0
gives-zeros w zero = refl
gives-zeros w (suc n) = ap₂ bit_or (under-zero w) (gives-zeros (w / 8) n)

pub at_zero : (w d r : ℕ) → d ≡ w % 8 → r ≡ level_of d → (n : ℕ) → r ≡ level_at w (replicate n 0)
at_zero w d r e h n =
    h ∙ ap level_of (e ∙ sym (ap (bit_or (w % 8)) (gives-zeros (w / 8) n) ∙ or_zero_r (w % 8))) ∙ at-start w (replicate n 0)

-- levels of 0 at the end do not matter
gives-pad : (w : ℕ) (v : List ℕ) (n : ℕ) → gives w (v ++ replicate n 0) ≡ gives w v
gives-pad w [] n = gives-zeros w n
gives-pad w (x ∷ v) n = ap (bit_or (under w (coded x))) (gives-pad (w / 8) v n)

pub level-pad : (w : ℕ) (v : List ℕ) (n : ℕ) → level_at w (v ++ replicate n 0) ≡ level_at w v
unfolding level_at bits_at
level-pad w v n = ap (λ (x : ℕ). level_of (bit_or (whole w) x)) (gives-pad (w / 8) v n)

-- what is read and what is left give the level asked for
pub record Reads (w : ℕ) (v : List ℕ) (b left i : ℕ) : Type 0 where
  pub inside : i ≤ length v
  pub low : b < 8
  pub same : level_of (bit_or b (gives left (drop i v))) ≡ level_at w v

pub reads-start : (w : ℕ) (v : List ℕ) (b left : ℕ) → b ≡ w % 8 → left ≡ w / 8 → Reads w v b left 0
reads-start w v b left e f = record { inside = omega arith; low = omega arith; same = rw (e, f) (at-start w v) }

module _ (w : ℕ) (v : List ℕ) (b left i : ℕ) (inv : Reads w v b left i) where
  pub reads-turn : i < length v → (x d y : ℕ) → Digit (coded (get_or v i 0)) x → d ≡ left % 8 → Digit (under d x) y → Reads w v (bit_or b y) (left / 8) (i + 1)
  reads-turn h x d y ex ed ey = record {
    inside = omega arith;
    low = or_lt 3 b y inv.low ey.low;
    same = ap level_of (or_assoc b y (gives (left / 8) (drop (i + 1) v))
        ∙ ap (bit_or b) (ap₂ (λ (p : ℕ) (l : List ℕ). bit_or p (gives (left / 8) l))
        (ey.same ∙ ap₂ under ed ex.same ∙ under-digit left (coded (get_or v i 0))) (ap (λ (j : ℕ). drop j v) (add-one i))
        ∙ sym (ap (gives left) (drop-cons v i 0 h))))
        ∙ inv.same;
  }

  pub reads_end : length v ≤ i → (r : ℕ) → r ≡ level_of b → r ≡ level_at w v
  reads_end h r e =
      e ∙ sym (ap (λ (l : List ℕ). level_of (bit_or b (gives left l))) (drop_of_length-le v h) ∙ ap level_of (or_zero_r b)) ∙ inv.same
