-- `written`: the search for a substitution, turn by turn.
use mathlib.Core.Path.{◌≡◌, sym, ap, ◌∙◌}
use mathlib.Core.List.{List}
use Prim.Native.Nat.{ℕ, zero, suc, ◌+◌, ◌-◌, ◌≤◌, ◌<◌}
use native.Mathlib.Omega.{arith}
use borrow.Author.Tests.{lt-ltb, le-ltb, eq-eqb, ne_eqb}
use lib.ListN.{length}
use Rattle.tokens.specs.Token.{number_at}
use Rattle.std.specs.Prelude.{Option as Answer, Some, None}
use Rattle.entering.specs.Written.{written_at}

pub find-start : (s : List ℕ) (x count at : ℕ) → written_at (count - 0) s at x ≡ written_at count s at x
find-start s x count at = let z : count - 0 ≡ count = omega arith in ap (λ (k : ℕ). written_at k s at x) z

module _ (s : List ℕ) (x : ℕ) (w : Answer ℕ) where
  none_left : (left at : ℕ) → left ≤ 0 → written_at left s at x ≡ w → None ≡ w
  unfolding written_at
  none_left zero at h e = e
  none_left (suc left) at h e = absurd (omega arith)

  past : (left at : ℕ) → 0 < left → length s < at → written_at left s at x ≡ w → None ≡ w
  unfolding written_at
  past zero at h l e = absurd (omega arith)
  past (suc left) at h l e = rw (lt-ltb (length s) at l) at e

  here : (left at n : ℕ) → 0 < left → at ≤ length s → n ≡ number_at s at → n ≡ x → written_at left s at x ≡ w → Some (at + 4) ≡ w
  unfolding written_at
  here zero at n h l q p e = absurd (omega arith)
  here (suc left) at n h l q p e = rw (le-ltb (length s) at l, eq-eqb (number_at s at) x (sym q ∙ p)) at e

  next : (left at n m : ℕ) → at ≤ length s → n ≡ number_at s at → (n ≡ x → ⊥) → m ≡ number_at s (at + 2) → written_at (suc left) s at x ≡ w
      → written_at left s (at + 4 + m) x ≡ w
  unfolding written_at
  next left at n m l q p r e =
      let z : number_at s at ≡ x → ⊥ = λ (y : number_at s at ≡ x). p (q ∙ y) in
      ap (λ (y : ℕ). written_at left s (at + 4 + y) x) r ∙ (rw (le-ltb (length s) at l, ne_eqb (number_at s at) x z) at e)

  module _ (count i at : ℕ) (e : written_at (count - i) s at x ≡ w) where
    pub find-end : count ≤ i → None ≡ w
    find-end h = none_left (count - i) at (omega arith) e

    pub find_past : i < count → length s < at → None ≡ w
    find_past h l = past (count - i) at (omega arith) l e

    pub find-here : (n : ℕ) → i < count → at ≤ length s → n ≡ number_at s at → n ≡ x → Some (at + 4) ≡ w
    find-here n h l q p = here (count - i) at n (omega arith) l q p e

    pub find-next : (n m : ℕ) → i < count → at ≤ length s → n ≡ number_at s at → (n ≡ x → ⊥) → m ≡ number_at s (at + 2)
        → written_at (count - (i + 1)) s (at + 4 + m) x ≡ w
    find-next n m h l q p r =
        let d : count - i ≡ suc (count - (i + 1)) = omega arith in
        next (count - (i + 1)) at n m l q p r (rw d at e)
