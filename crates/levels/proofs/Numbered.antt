-- The table of numbers in which each definition is itself.
use mathlib.Core.Path.{◌≡◌, sym, ap, ap₂, refl, ◌∙◌}
use mathlib.Core.List.{List, ◌++◌, append-nil}
use Prim.Native.Nat.{ℕ, zero, suc, ◌+◌, ◌≤◌, ◌<◌}
use native.Mathlib.Nat.{zero-add}
use native.Mathlib.Numerals.{add-one}
use native.Mathlib.Omega.{arith}
use lib.ListN.{drop_of_length-le, get_or, length, set}
use lib.Seq.{length-paste, paste, paste-suc, paste-zero, take_all}
use Rattle.theory.specs.Lists.{numbers_from}
use Rattle.limits.specs.Limits.{max_definitions}

-- the first i numbers stand
pub record Numbered (d out : List ℕ) (i : ℕ) : Type 0 where
  pub up_to : i ≤ max_definitions
  pub same : out ≡ paste d 0 (numbers_from 0 max_definitions) i

pub numbered-start : (d : List ℕ) → Numbered d d 0
numbered-start d = record { up_to = omega arith; same = paste-zero d 0 (numbers_from 0 max_definitions) }

pub numbers-length : (i n : ℕ) → length (numbers_from i n) ≡ n
numbers-length i zero = refl
numbers-length i (suc n) = ap suc (numbers-length (suc i) n)

pub numbers-at : (i n k : ℕ) → k < n → i + k ≡ get_or (numbers_from i n) k 0
numbers-at i zero k h = absurd (omega arith)
numbers-at i (suc n) zero h = omega arith
numbers-at i (suc n) (suc k) h = let e : i + suc k ≡ suc i + k = omega arith in e ∙ numbers-at (suc i) n k (omega arith)

module _ (d out : List ℕ) (i : ℕ) (inv : Numbered d out i) (room : length d ≡ max_definitions) where
  pub numbered-length : length out ≡ length d
  numbered-length =
      ap length inv.same
      ∙ length-paste d 0 (numbers_from 0 max_definitions) i (omega (arith, inv.up_to)) (rw (numbers-length 0 max_definitions) inv.up_to)

  pub numbered-inside : i < max_definitions → i < length out
  numbered-inside h = omega (arith, numbered-length)

  pub numbered-turn : i < max_definitions → Numbered d (set out i i) (i + 1)
  numbered-turn h =
      let e : i ≡ get_or (numbers_from 0 max_definitions) i 0 = sym (zero-add i) ∙ numbers-at 0 max_definitions i h in
      let z : 0 + i ≡ i = zero-add i in
      record {
        up_to = omega arith;
        same = ap₂ (λ (o : List ℕ) (y : ℕ). set o i y) inv.same e
            ∙ ap (λ (k : ℕ). set (paste d 0 (numbers_from 0 max_definitions) i) k (get_or (numbers_from 0 max_definitions) i 0)) (sym z)
            ∙ paste-suc d 0 (numbers_from 0 max_definitions) i 0 (omega arith) (rw (numbers-length 0 max_definitions) h)
            ∙ ap (paste d 0 (numbers_from 0 max_definitions)) (sym (add-one i));
      }

  pub numbered-whole : max_definitions ≤ i → out ≡ numbers_from 0 max_definitions
  numbered-whole h =
      let e : i ≡ max_definitions = omega (arith, inv.up_to) in
      inv.same ∙ ap (paste d 0 (numbers_from 0 max_definitions)) e
      ∙ ap₂ ◌++◌ (take_all max_definitions (numbers_from 0 max_definitions) (rw (numbers-length 0 max_definitions) (omega arith))) (drop_of_length-le d {i = 0 + max_definitions} (omega arith))
      ∙ append-nil (numbers_from 0 max_definitions)
