-- What the code's answers cite: one lemma for each way through a function, over plain values.
use mathlib.Core.Path.{◌≡◌, sym, ap, ap₂, ◌∙◌}
use mathlib.Core.List.{List}
use Prim.Native.Nat.{ℕ, suc, ◌+◌, ◌*◌, ◌%◌, ◌^◌, ◌≤◌, ◌<◌}
use native.Mathlib.Nat.{mod-eq_of_lt}
use native.Mathlib.Omega.{arith}
use borrow.Author.Tests.{eq-eqb, ne_eqb}
use lib.Bits.{bit_and, bit_or, or_zero_r}
use lib.Dec.{T, ltb, ltb→lt}
use lib.ListN.{get_or, length, get_or-eq_default}
use lib.Pow.{shl_exact}
use Rattle.forms.specs.Labels.{Digit, after, after3, coded, kept, refused, under, under3, whole}
use Rattle.forms.specs.Forms.{GivesBits, bits_at}
use Rattle.rows.proofs.Columns.{below, below_at}
use Rattle.forms.proofs.Laws.{under-zero, whole-under}
use Rattle.forms.proofs.Forms.{bits-base, bits-one, bits-or}

-- ---- labels

pub kept-none : (l x : ℕ) → l % 2 ≡ 0 → 0 ≡ kept l x
kept-none l x h = rw (eq-eqb (l % 2) 0 h)

pub kept-all : (l x : ℕ) → (l % 2 ≡ 0 → ⊥) → x ≡ kept l x
kept-all l x h = rw (ne_eqb (l % 2) 0 h)

pub refused_none : (l x : ℕ) → bit_and (bit_and l x) 6 ≡ 0 → 0 ≡ refused l x
refused_none l x h = rw (eq-eqb (bit_and (bit_and l x) 6) 0 h)

pub refused_all : (l x : ℕ) → (bit_and (bit_and l x) 6 ≡ 0 → ⊥) → 7 ≡ refused l x
refused_all l x h = rw (ne_eqb (bit_and (bit_and l x) 6) 0 h)

small : (f : ℕ → ℕ → ℕ) → T (below (λ i. below (λ j. ltb (f i j) 8) 8) 8) → (i j : ℕ) → i < 8 → j < 8 → f i j < 8
small f t i j h k = ltb→lt (f i j) 8 (below_at (λ j. ltb (f i j) 8) 8 j (below_at (λ i. below (λ j. ltb (f i j) 8) 8) 8 i t h) k)

digit : (a : ℕ) → a < 8 → a % 8 ≡ a
digit a h = mod-eq_of_lt h

pub level-under-is : (l x a b : ℕ) → l < 8 → x < 8 → a ≡ kept l x → b ≡ refused l x → Digit (under l x) (bit_or a b)
unfolding under
level-under-is l x a b hl hx ea eb =
    record { same = ap₂ bit_or ea eb ∙ sym (ap₂ under3 (digit l hl) (digit x hx)); low = rw (ea, eb) (small under3 tt l x hl hx) }

pub after_none : (l m : ℕ) → l < 8 → m < 8 → l ≡ 0 → Digit (after l m) 0
unfolding after
after_none l m hl hm z = record { same = sym (ap₂ after3 (digit l hl) (digit m hm) ∙ ap (λ (k : ℕ). after3 k m) z); low = omega arith }

pub after-some : (l m a : ℕ) → l < 8 → m < 8 → (l ≡ 0 → ⊥) → a ≡ kept m l → Digit (after l m) (bit_or (bit_and m 6) a)
unfolding after
after-some l m a hl hm z e =
    let s : bit_or (bit_and m 6) a ≡ after3 l m = rw (ne_eqb l 0 z) (ap (bit_or (bit_and m 6)) e) in
    record { same = s ∙ sym (ap₂ after3 (digit l hl) (digit m hm)); low = rw s (small after3 tt l m hl hm) }

-- ---- forms

pub level-added : (w l x y : ℕ) → Digit (under l x) y → GivesBits (bit_or w y) (λ v. bit_or (bits_at w v) (under l (whole x)))
level-added w l x y d = record {
  at = λ v _ _. bits-or w y v ∙ ap (bit_or (bits_at w v)) (bits-base y v d.low ∙ ap whole d.same ∙ whole-under l x);
}

three : (i : ℕ) → i * 3 + 3 ≡ 3 * suc i
three i = omega arith

pub param-added : (w l i : ℕ) → l < 8 → i < 16
    → GivesBits (bit_or w ((l * 2 ^ (i * 3 + 3)) % 2 ^ 64)) (λ v. bit_or (bits_at w v) (under l (coded (get_or v i 0))))
param-added w l i h k = record {
  at = λ v _ _. bits-or w ((l * 2 ^ (i * 3 + 3)) % 2 ^ 64) v
      ∙ ap (bit_or (bits_at w v)) (ap (λ (x : ℕ). bits_at x v) (shl_exact 3 (i * 3 + 3) 64 h (omega arith) ∙ ap (λ (x : ℕ). l * 2 ^ x) (three i)) ∙ bits-one l i v h);
}

pub param-past : (w l i : ℕ) → (16 ≤ i) → GivesBits w (λ v. bit_or (bits_at w v) (under l (coded (get_or v i 0))))
param-past w l i h = record {
  at = λ v s _. sym (ap (λ (x : ℕ). bit_or (bits_at w v) (under l (coded x))) (past v s)
      ∙ ap (bit_or (bits_at w v)) (under-zero l) ∙ or_zero_r (bits_at w v));
}
  where
    past : (v : List ℕ) → length v ≤ 16 → get_or v i 0 ≡ 0
    past v s = get_or-eq_default v 0 (omega arith)
