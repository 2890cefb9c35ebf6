-- A form tried with one or two parameters at a level, others at 0.
use mathlib.Core.Bool.{Bool, false, not, true, ◌&&◌, ◌||◌}
use mathlib.Core.Path.{◌≡◌, refl, sym, ap, ap₂, ◌∙◌}
use Prim.Native.Nat.{ℕ, zero, suc, ◌%◌, ◌*◌, ◌+◌, ◌/◌, ◌^◌, ◌<◌}
use native.Mathlib.Omega.{arith}
use borrow.Author.Tests.{eq-eqb, eqb-false, eqb-true, ne_eqb}
use lib.Bits.{bit_or, or_lt, or_self, or_zero_l, or_zero_r}
use lib.Dec.{eqb, ltb}
use lib.ListN.{replicate, set}
use lib.Pow.{shr-shr}
use Rattle.theory.specs.Card.{alone, clash, raises, takes, together}
use Rattle.theory.specs.Level.{verdict}
use Rattle.forms.specs.Cards.{label_at, probe}
use Rattle.forms.specs.Labels.{Digit, coded, level_of, under}
use Rattle.forms.specs.Forms.{gives, level_at}
use Rattle.forms.proofs.Laws.{under-digit, under-zero}
use Rattle.forms.proofs.Forms.{or_swap}
use Rattle.forms.proofs.Reading.{at-start, gives-zeros}

-- ---- what the labels make of such levels

next : (w i : ℕ) → w / 8 / 2 ^ (i * 3) ≡ w / 2 ^ (suc i * 3)
next w i = let e : 3 + i * 3 ≡ suc i * 3 = omega arith in shr-shr w 3 (i * 3) ∙ ap (λ (k : ℕ). w / 2 ^ k) e

first : (w l : ℕ) → under w (coded l) ≡ under (w / 2 ^ (0 * 3)) (coded l)
first w l = let e : w ≡ w / 1 = omega arith in ap (λ (x : ℕ). under x (coded l)) e

gives-alone : (w n i l : ℕ) → i < n → gives w (set (replicate n 0) i l) ≡ under (w / 2 ^ (i * 3)) (coded l)
gives-alone w zero i l h = absurd (omega arith)
gives-alone w (suc n) zero l h = ap (bit_or (under w (coded l))) (gives-zeros (w / 8) n) ∙ or_zero_r (under w (coded l)) ∙ first w l
gives-alone w (suc n) (suc i) l h =
    ap₂ bit_or (under-zero w) (gives-alone (w / 8) n i l (omega arith)) ∙ or_zero_l (under (w / 8 / 2 ^ (i * 3)) (coded l))
    ∙ ap (λ (x : ℕ). under x (coded l)) (next w i)

gives-together : (w n i a j b : ℕ) → i < j → j < n
    → gives w (set (set (replicate n 0) i a) j b) ≡ bit_or (under (w / 2 ^ (i * 3)) (coded a)) (under (w / 2 ^ (j * 3)) (coded b))
gives-together w zero i a j b h k = absurd (omega arith)
gives-together w (suc n) i a zero b h k = absurd (omega arith)
gives-together w (suc n) zero a (suc j) b h k =
    ap₂ bit_or (first w a) (gives-alone (w / 8) n j b (omega arith) ∙ ap (λ (x : ℕ). under x (coded b)) (next w j))
gives-together w (suc n) (suc i) a (suc j) b h k =
    ap₂ bit_or (under-zero w) (gives-together (w / 8) n i a j b (omega arith) (omega arith))
    ∙ or_zero_l (bit_or (under (w / 8 / 2 ^ (i * 3)) (coded a)) (under (w / 8 / 2 ^ (j * 3)) (coded b)))
    ∙ ap₂ (λ (x y : ℕ). bit_or (under x (coded a)) (under y (coded b))) (next w i) (next w j)

label : (w i l : ℕ) → under (label_at w i) (coded l) ≡ under (w / 8 / 2 ^ (i * 3)) (coded l)
label w i l =
    let e : i * 3 + 3 ≡ 3 + i * 3 = omega arith in
    under-digit (w / 2 ^ (i * 3 + 3)) (coded l) ∙ ap (λ (x : ℕ). under x (coded l)) (ap (λ (k : ℕ). w / 2 ^ k) e ∙ sym (shr-shr w 3 (i * 3)))

-- ---- the levels

alone-is : (w i l n : ℕ) → i < n → level_of (probe w i l) ≡ alone n (level_at w) i l
alone-is w i l n h =
    ap (λ (y : ℕ). level_of (bit_or (w % 8) y)) (label w i l ∙ sym (gives-alone (w / 8) n i l h)) ∙ at-start w (set (replicate n 0) i l)

together-is : (w i a j b n : ℕ) → i < j → j < n → level_of (bit_or (probe w i a) (probe w j b)) ≡ together n (level_at w) i a j b
together-is w i a j b n h k =
    ap level_of (or_swap (w % 8) (under (label_at w i) (coded a)) (w % 8) (under (label_at w j) (coded b))
    ∙ ap₂ bit_or (or_self (w % 8)) (ap₂ bit_or (label w i a) (label w j b) ∙ sym (gives-together (w / 8) n i a j b h k)))
    ∙ at-start w (set (set (replicate n 0) i a) j b)

pub alone-bits : (w i l d x y b : ℕ) → Digit (label_at w i) d → Digit (coded l) x → Digit (under d x) y → b ≡ w % 8 → Digit (probe w i l) (bit_or b y)
alone-bits w i l d x y b hd hx hy e = record {
  same = ap₂ bit_or e (hy.same ∙ ap₂ under hd.same hx.same);
  low = or_lt 3 b y (omega arith) hy.low;
}

-- ---- the tests of a card

pub verdict-is : (b l : ℕ) → l ≡ level_of b → eqb l 4 ≡ verdict (level_of b)
verdict-is b l e = ap (λ (x : ℕ). eqb x 4) e ∙ go (verdict (level_of b)) refl
  where
    go : (v : Bool) → verdict (level_of b) ≡ v → eqb (level_of b) 4 ≡ verdict (level_of b)
    go true e = eq-eqb (level_of b) 4 (sym (eqb-true 4 (level_of b) e)) ∙ sym e
    go false e = ne_eqb (level_of b) 4 (λ (z : level_of b ≡ 4). eqb-false 4 (level_of b) e (sym z)) ∙ sym e

verdict-alone : (w i l x : ℕ) → Digit (probe w i l) x → (n : ℕ) → i < n → verdict (level_of x) ≡ verdict (alone n (level_at w) i l)
verdict-alone w i l x d n h = ap (λ (y : ℕ). verdict (level_of y)) d.same ∙ ap verdict (alone-is w i l n h)

pub takes-is : (w i l x : ℕ) (v : Bool) → Digit (probe w i l) x → v ≡ verdict (level_of x) → (n : ℕ) → i < n → not v ≡ takes n (level_at w) i l
takes-is w i l x v d e n h = ap not (e ∙ verdict-alone w i l x d n h)

pub raises-never : (w i l x : ℕ) (v : Bool) → Digit (probe w i l) x → v ≡ verdict (level_of x) → v ≡ true → (n : ℕ) → i < n → false ≡ raises n (level_at w) i l
raises-never w i l x v d e t n h = rw (sym (sym t ∙ e ∙ verdict-alone w i l x d n h))

pub raises-if : (w i l x z y : ℕ) (v : Bool) → Digit (probe w i l) x → v ≡ verdict (level_of x) → v ≡ false → ((n : ℕ) → z ≡ level_at w (replicate n 0)) → y ≡ level_of x
    → (n : ℕ) → i < n → ltb z y ≡ raises n (level_at w) i l
raises-if w i l x z y v d e t ez ey n h =
    rw (sym (sym t ∙ e ∙ verdict-alone w i l x d n h)) (ap₂ ltb (ez n) (ey ∙ ap level_of d.same ∙ alone-is w i l n h))

-- of a pair
never : (v : Bool) → false ≡ v && false
never true = refl
never false = refl

never_both : (v p : Bool) → false ≡ v && (p && false)
never_both v true = never v
never_both v false = never v

alike : (v : Bool) → v ≡ v && true
alike true = refl
alike false = refl

module _ (w i a j b x y : ℕ) (dx : Digit (probe w i a) x) (dy : Digit (probe w j b) y) (h : i < j) where
  clash-is : (n : ℕ) → j < n → verdict (level_of (bit_or x y)) && (not (verdict (level_of x)) && not (verdict (level_of y))) ≡ clash n (level_at w) i a j b
  clash-is n k =
      ap₂ ◌&&◌ (ap verdict (ap level_of (ap₂ bit_or dx.same dy.same) ∙ together-is w i a j b n h k))
      (ap₂ ◌&&◌ (ap not (verdict-alone w i a x dx n (omega arith))) (ap not (verdict-alone w j b y dy n k)))

  pub pair-low : bit_or x y < 8
  pair-low = or_lt 3 x y dx.low dy.low

  pub clash-first : (v : Bool) → v ≡ verdict (level_of x) → v ≡ true → (n : ℕ) → j < n → false ≡ clash n (level_at w) i a j b
  clash-first v e t n k = never (verdict (level_of (bit_or x y))) ∙ rw (sym (sym t ∙ e)) at (clash-is n k)

  pub clash-second : (v : Bool) → v ≡ verdict (level_of y) → v ≡ true → (n : ℕ) → j < n → false ≡ clash n (level_at w) i a j b
  clash-second v e t n k = never_both (verdict (level_of (bit_or x y))) (not (verdict (level_of x))) ∙ rw (sym (sym t ∙ e)) at (clash-is n k)

  pub clash-both : (v u r : Bool) → v ≡ verdict (level_of x) → v ≡ false → u ≡ verdict (level_of y) → u ≡ false → r ≡ verdict (level_of (bit_or x y))
      → (n : ℕ) → j < n → r ≡ clash n (level_at w) i a j b
  clash-both v u r e t f s g n k = g ∙ alike (verdict (level_of (bit_or x y))) ∙ rw (sym (sym t ∙ e), sym (sym s ∙ f)) at (clash-is n k)

pub clashes-one : (v p q : Bool) → v ≡ p → v ≡ true → true ≡ p || q
clashes-one v p q e t = rw (sym (sym t ∙ e))

pub clashes-other : (v u p q : Bool) → v ≡ p → v ≡ false → u ≡ q → u ≡ p || q
clashes-other v u p q e t f = rw (sym (sym t ∙ e)) f
