-- Laws of forms: the union of two gives the union of what they give; a base alone; a label alone.
use mathlib.Core.Path.{◌≡◌, refl, sym, ap, ap₂, ◌∙◌}
use mathlib.Core.List.{List, [], ◌∷◌}
use Prim.Native.Nat.{ℕ, zero, suc, ◌+◌, ◌*◌, ◌/◌, ◌%◌, ◌^◌, ◌≤◌, ◌<◌}
use native.Mathlib.Nat.{mul-one, mul_assoc, mul-div_cancel, mul-mod_left, zero-lt-suc}
use native.Mathlib.Omega.{arith}
use lib.Bits.{bit_or, or_comm, or_lt, or_shr, or_zero_r}
use lib.Dec.{ltb, ltb→lt}
use lib.ListN.{get_or}
use lib.Pow.{pow-add}
use Rattle.forms.specs.Labels.{coded, level_of, under, under3, whole}
use Rattle.forms.specs.Forms.{bits_at, gives, level_at}
use Rattle.forms.proofs.Finite.{same}
use Rattle.rows.proofs.Columns.{below, below_at}
use Rattle.forms.proofs.Laws.{coded-level, level-low, level-whole, or_assoc, under-both, under-free, under_none, under-zero, whole-coded, whole-free, whole-or, whole-under, whole-whole}

pub or_swap : (a b c d : ℕ) → bit_or (bit_or a b) (bit_or c d) ≡ bit_or (bit_or a c) (bit_or b d)
or_swap a b c d =
    or_assoc a b (bit_or c d)
    ∙ ap (bit_or a) (sym (or_assoc b c d) ∙ ap (λ (x : ℕ). bit_or x d) (or_comm b c) ∙ or_assoc c b d)
    ∙ sym (or_assoc a c (bit_or b d))

pub gives_none : (v : List ℕ) → gives 0 v ≡ 0
gives_none [] = refl
gives_none (x ∷ v) = ap₂ bit_or (under_none (coded x)) (gives_none v)

pub gives-or : (a b : ℕ) (v : List ℕ) → gives (bit_or a b) v ≡ bit_or (gives a v) (gives b v)
gives-or a b [] = refl
gives-or a b (x ∷ v) =
    ap₂ bit_or (under-both a b (coded x)) (ap (λ (w : ℕ). gives w v) (or_shr a b 3) ∙ gives-or (a / 8) (b / 8) v)
    ∙ or_swap (under a (coded x)) (under b (coded x)) (gives (a / 8) v) (gives (b / 8) v)

pub bits-or : (a b : ℕ) (v : List ℕ) → bits_at (bit_or a b) v ≡ bit_or (bits_at a v) (bits_at b v)
unfolding bits_at
bits-or a b v =
    ap₂ bit_or (whole-or a b) (ap (λ (w : ℕ). gives w v) (or_shr a b 3) ∙ gives-or (a / 8) (b / 8) v)
    ∙ or_swap (whole a) (whole b) (gives (a / 8) v) (gives (b / 8) v)

-- a base alone
pub bits-base : (c : ℕ) (v : List ℕ) → c < 8 → bits_at c v ≡ whole c
unfolding bits_at
bits-base c v h =
    let e : c / 8 ≡ 0 = omega arith in
    ap (λ (w : ℕ). bit_or (whole c) (gives w v)) e ∙ ap (bit_or (whole c)) (gives_none v) ∙ or_zero_r (whole c)

at_base : (c : ℕ) (v : List ℕ) → c < 8 → level_at c v ≡ level_of c
unfolding level_at whole
at_base c v h = ap level_of (bits-base c v h) ∙ level-whole c

pub variable-level : (v : List ℕ) → level_at 1 v ≡ 1
unfolding level_of
variable-level v = at_base 1 v (omega arith)

-- a label alone
next : (l i : ℕ) → l * 2 ^ (3 * suc i) ≡ l * 2 ^ (3 * i) * 8
next l i =
    let e : 3 * suc i ≡ 3 * i + 3 = omega arith in
    ap (λ (k : ℕ). l * 2 ^ k) e ∙ ap (λ (p : ℕ). l * p) (pow-add 2 (3 * i) 3) ∙ sym (mul_assoc l (2 ^ (3 * i)) 8)

next-digit : (l i : ℕ) → l * 2 ^ (3 * suc i) % 8 ≡ 0
next-digit l i = ap (λ (p : ℕ). p % 8) (next l i) ∙ mul-mod_left (l * 2 ^ (3 * i)) 8

next-rest : (l i : ℕ) → l * 2 ^ (3 * suc i) / 8 ≡ l * 2 ^ (3 * i)
next-rest l i = ap (λ (p : ℕ). p / 8) (next l i) ∙ mul-div_cancel (l * 2 ^ (3 * i)) (zero-lt-suc 7)

pub gives_one : (l i : ℕ) (v : List ℕ) → l < 8 → gives (l * 2 ^ (3 * i)) v ≡ under l (coded (get_or v i 0))
gives_one l i [] h = sym (under-zero l)
gives_one l zero (x ∷ v) h =
    let e : l / 8 ≡ 0 = omega arith in
    ap (λ (w : ℕ). gives w (x ∷ v)) (mul-one l)
    ∙ ap (bit_or (under l (coded x))) (ap (λ (w : ℕ). gives w v) e ∙ gives_none v) ∙ or_zero_r (under l (coded x))
gives_one l (suc i) (x ∷ v) h =
    ap₂ bit_or (under-free (l * 2 ^ (3 * suc i)) (coded x) (next-digit l i)) (ap (λ (w : ℕ). gives w v) (next-rest l i))
    ∙ gives_one l i v h

pub bits-one : (l i : ℕ) (v : List ℕ) → l < 8 → bits_at (l * 2 ^ (3 * suc i)) v ≡ under l (coded (get_or v i 0))
unfolding bits_at
bits-one l i v h = ap₂ bit_or (whole-free (l * 2 ^ (3 * suc i)) (next-digit l i)) (ap (λ (w : ℕ). gives w v) (next-rest l i)) ∙ gives_one l i v h

-- the bits that a form gives are those of its level
pub gives_whole : (w : ℕ) (v : List ℕ) → whole (gives w v) ≡ gives w v
unfolding whole level_of
gives_whole w [] = refl
gives_whole w (x ∷ v) =
    whole-or (under w (coded x)) (gives (w / 8) v)
    ∙ ap₂ bit_or (whole-under w (coded x) ∙ ap (under w) (whole-coded x)) (gives_whole (w / 8) v)

pub bits-whole : (w : ℕ) (v : List ℕ) → whole (bits_at w v) ≡ bits_at w v
unfolding bits_at
bits-whole w v = whole-or (whole w) (gives (w / 8) v) ∙ ap₂ bit_or (whole-whole w) (gives_whole (w / 8) v)

pub coded-at : (w : ℕ) (v : List ℕ) → coded (level_at w v) ≡ bits_at w v
unfolding level_at
coded-at w v = coded-level (bits_at w v) ∙ bits-whole w v

pub at_low : (w : ℕ) (v : List ℕ) → level_at w v ≤ 4
unfolding level_at
at_low w v = level-low (bits_at w v)

-- under no mask all that labels give counts
under-small : (l x : ℕ) → under l x < 8
unfolding under
under-small l x = ltb→lt (under3 (l % 8) (x % 8)) 8 (below_at (λ j. ltb (under3 (l % 8) j) 8) 8 (x % 8) (below_at (λ i. below (λ j. ltb (under3 i j) 8) 8) 8 (l % 8) tt (omega arith)) (omega arith))

gives-small : (w : ℕ) (v : List ℕ) → gives w v < 8
gives-small w [] = omega arith
gives-small w (x ∷ v) = or_lt 3 (under w (coded x)) (gives (w / 8) v) (under-small w (coded x)) (gives-small (w / 8) v)

pub under_all : (w : ℕ) (v : List ℕ) → under 1 (gives w v) ≡ gives w v
unfolding under
under_all w v = same 8 (λ x. under3 1 (x % 8)) (λ x. x) tt (gives w v) (gives-small w v)
