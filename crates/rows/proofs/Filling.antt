-- A loop that puts one value at places side by side: what is left of them turns what stands there into the whole.
-- Assumes nothing.
use mathlib.Core.Path.{◌≡◌, refl, ◌∙◌}
use mathlib.Core.List.{List}
use Prim.Native.Nat.{ℕ, suc, ◌+◌, ◌-◌, ◌≤◌, ◌<◌}
use native.Mathlib.Omega.{arith}
use lib.ListN.{length, set, length-set}
use Rattle.rows.specs.Numbers.{run_in}

pub record Filling {A : Type 0} (x : A) (first end : ℕ) (before xs : List A) (i : ℕ) : Type 0 where
  pub size : length xs ≡ length before
  pub left : run_in x i (end - i) xs ≡ run_in x first (end - first) before

module _ {A : Type 0} (x : A) (first end : ℕ) (before : List A) where
  pub start : Filling x first end before before first
  start = record { size = refl; left = refl }

  module _ (xs : List A) (i : ℕ) (inv : Filling x first end before xs i) where
    pub inside : end ≤ length before → i < end → i < length xs
    inside l h = omega (arith, inv.size)

    pub turn : i < end → Filling x first end before (set xs i x) (i + 1)
    turn h =
        let n : end - i ≡ suc (end - (i + 1)) = omega arith in
        record { size = length-set xs i x ∙ inv.size; left = rw n at inv.left }

    pub whole : end ≤ i → xs ≡ run_in x first (end - first) before
    whole h = let n : end - i ≡ 0 = omega arith in rw n at inv.left
