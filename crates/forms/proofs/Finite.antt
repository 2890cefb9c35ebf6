-- Two functions that are the same at every number below a bound, by one computed test (`below` of rows' Columns).
use mathlib.Core.Path.{◌≡◌}
use Prim.Native.Nat.{ℕ, ◌<◌}
use lib.Dec.{T, eqb, eqb→eq}
use Rattle.rows.proofs.Columns.{below, below_at}

pub same : (n : ℕ) (f g : ℕ → ℕ) → T (below (λ i. eqb (f i) (g i)) n) → (i : ℕ) → i < n → f i ≡ g i
same n f g t i h = eqb→eq (f i) (g i) (below_at (λ i. eqb (f i) (g i)) n i t h)

pub same₂ : (n m : ℕ) (f g : ℕ → ℕ → ℕ) → T (below (λ i. below (λ j. eqb (f i j) (g i j)) m) n) → (i j : ℕ) → i < n → j < m → f i j ≡ g i j
same₂ n m f g t i j h k = same m (f i) (g i) (below_at (λ i. below (λ j. eqb (f i j) (g i j)) m) n i t h) j k

pub same₃ : (n m l : ℕ) (f g : ℕ → ℕ → ℕ → ℕ) → T (below (λ i. below (λ j. below (λ k. eqb (f i j k) (g i j k)) l) m) n)
    → (i j k : ℕ) → i < n → j < m → k < l → f i j k ≡ g i j k
same₃ n m l f g t i j k x y z = same₂ m l (f i) (g i) (below_at (λ i. below (λ j. below (λ k. eqb (f i j k) (g i j k)) l) m) n i t x) j k y z
