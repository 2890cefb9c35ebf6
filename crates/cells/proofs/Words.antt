-- Numbers of four bytes, put and read, and where the table has them.
use mathlib.Core.List.{List}
use mathlib.Core.Path.{◌≡◌, ◌∙◌, refl}
use lib.ListN.{get_or, length}
use lib.Seq.{sets}
use native.Mathlib.Nat.{mul_comm, mul-le-mul_right}
use native.Mathlib.Numerals.{add-one}
use native.Mathlib.Omega.{arith}
use native.Mathlib.Decide.{dec_lt}
use Prim.Native.Nat.{ℕ, suc, ◌+◌, ◌*◌, ◌^◌, ◌<◌, ◌≤◌}
use Rattle.strings.proofs.Written.{sets-above, sets-at, sets_below}
use Rattle.cells.specs.Table.{Sized}
use Rattle.cells.specs.Words.{four, word_at}
use Rattle.cells.specs.declared.Layout.{Layout}

pub word-put : (s : List ℕ) (i v : ℕ) → 4 * i + 3 < length s → v < 2 ^ 32 → word_at (sets s (4 * i) (four v)) i ≡ v
unfolding word_at
word-put s i v l h =
    let a = sets-at (four v) s (4 * i) (omega arith) in
    let e1 : 4 * i + 1 ≡ suc (4 * i) = add-one (4 * i) in
    let e2 : 4 * i + 2 ≡ suc (suc (4 * i)) = omega arith in
    let e3 : 4 * i + 2 + 1 ≡ suc (suc (suc (4 * i))) = omega arith in
    rw (e3, e2, e1, a.0, a.1.0, a.1.1.0, a.1.1.1.0) (omega arith)

four-at : (s m : List ℕ) (j : ℕ) → ((k : ℕ) → k < 4 → get_or s (4 * j + k) 0 ≡ get_or m (4 * j + k) 0) → word_at s j ≡ word_at m j
unfolding word_at
four-at s m j e =
    let a : get_or s (4 * j) 0 ≡ get_or m (4 * j) 0 = let z : 4 * j + 0 ≡ 4 * j = omega arith in let y = e 0 (omega arith) in rw z at y in
    let b = e 1 (omega arith) in
    let c = e 2 (omega arith) in
    let z : 4 * j + 2 + 1 ≡ 4 * j + 3 = omega arith in
    let d = e 3 (omega arith) in
    rw (z, a, b, c, d) refl

pub word-other : (s : List ℕ) (i j v : ℕ) → (i ≡ j → ⊥) → word_at (sets s (4 * i) (four v)) j ≡ word_at s j
word-other s i j v n = go (dec_lt i j)
  where
    go : Dec (i < j) → word_at (sets s (4 * i) (four v)) j ≡ word_at s j
    go (yes l) = four-at (sets s (4 * i) (four v)) s j (λ k h. sets-above (four v) s (4 * i) (4 * j + k) (omega arith))
    go (no l) = four-at (sets s (4 * i) (four v)) s j (λ k h. sets_below (four v) s (4 * i) (4 * j + k) (let m : j < i = below l n in omega arith))
      where
        below : (i < j → ⊥) → (i ≡ j → ⊥) → j < i
        below l n = omega arith

-- the word i of call r
module _ (stride : ℕ) where
  apart_below : (r r' i i' : ℕ) → i < stride → r < r' → r * stride + i < r' * stride + i'
  apart_below r r' i i' h l =
      let m : suc r * stride ≤ r' * stride = mul-le-mul_right stride l in
      let e : suc r * stride ≡ r * stride + stride = mul_comm (suc r) stride ∙ more in
      omega arith
    where
      more : stride * suc r ≡ r * stride + stride
      more = let z : stride * r ≡ r * stride = mul_comm stride r in omega arith

  pub cells-apart : (r r' i i' : ℕ) → i < stride → i' < stride → (r ≡ r' → ⊥) → r * stride + i ≡ r' * stride + i' → ⊥
  cells-apart r r' i i' h h' n e = go (dec_lt r r')
    where
      go : Dec (r < r') → ⊥
      go (yes l) = let z = apart_below r r' i i' h l in omega arith
      go (no l) = let z = apart_below r' r i' i h' (below l n) in omega arith
        where
          below : (r < r' → ⊥) → (r ≡ r' → ⊥) → r' < r
          below l n = omega arith

-- it is in the table
pub cell-inside : (l : Layout) (bytes r i : ℕ) → Sized l bytes → r < l.room → i < l.stride → (4 * (r * l.stride + i) + 3 < bytes) × (r * l.stride + i < 2 ^ 19)
cell-inside l bytes r i z h k =
    let a : suc r * l.stride ≤ l.room * l.stride = mul-le-mul_right l.stride h in
    let b : l.room * l.stride ≤ 16383 * l.stride = mul-le-mul_right l.stride z.small in
    let e : suc r * l.stride ≡ l.stride * suc r = mul_comm (suc r) l.stride in
    let f : l.stride * r ≡ r * l.stride = mul_comm l.stride r in
    let g : l.stride * suc r ≡ r * l.stride + l.stride = omega arith in
    (omega (arith, z.fits), omega (arith, z.wide, z.few))
