-- The levels as a lattice: 0 < 1 < 2, 3 < 4, neither of 2 and 3 below the other, and `highest` its join. Theorem `lattice` (proofs/Lattice).
use Rattle.std.specs.Prelude.{List, [], ◌++◌, ◌∷◌, ◌≡◌, T, ◌≤◌, ℕ}
use Rattle.theory.specs.Level.{IsLevel, Mask, Row, highest, incorrect, table, taken}
use Rattle.theory.specs.Lists.{All, Each}

-- l is below m, or is m: it is no higher, and not 2 where m is 3
abbrev pub Below : ℕ → ℕ → Type 0
Below l m = (l ≤ m) × (l ≡ 2 → ¬ (m ≡ 3))

-- each level of the one list is below its fellow of the other, and there are as many
abbrev pub EachBelow : List ℕ → List ℕ → Type 0
EachBelow ls ms = Each Below ls ms

-- the higher of two levels, 4 of a 2 and a 3
abbrev pub higher : ℕ → ℕ → ℕ
higher l m = highest (l ∷ m ∷ [])

-- A mask that takes 0, with a level all that are below it, and with two levels the higher of them.
pub record Closed (mask : Mask) : Type 0 where
  pub nought : T (taken mask 0)
  pub downward : (l k : ℕ) → IsLevel l → Below k l → T (taken mask l) → T (taken mask k)
  pub under_join : (k l : ℕ) → IsLevel k → IsLevel l → T (taken mask k) → T (taken mask l) → T (taken mask (higher k l))

-- THE LATTICE
pub record Lattice : Type 0 where
  -- `Below` is an order from 0 to 4, where neither of 2 and 3 is below the other.
  pub reflexive : (l : ℕ) → Below l l
  pub antisymmetric : (l m : ℕ) → Below l m → Below m l → l ≡ m
  pub transitive : (l m n : ℕ) → Below l m → Below m n → Below l n
  pub least : (l : ℕ) → Below 0 l
  pub greatest : (l : ℕ) → IsLevel l → Below l incorrect
  pub apart : ¬ (Below 2 3) × ¬ (Below 3 2)
  -- The highest of some levels is a level; each of them is below it, and it is below whatever all of them are below.
  pub is-level : (ls : List ℕ) → All IsLevel ls → IsLevel (highest ls)
  pub upper : (ls : List ℕ) → All IsLevel ls → All (λ l. Below l (highest ls)) ls
  pub lowest_upper : (ls : List ℕ) (m : ℕ) → All (λ l. Below l m) ls → Below (highest ls) m
  -- So it may be worked out part by part and in any order; a level twice counts once, and 0 counts for nothing.
  pub associative : (ls ms : List ℕ) → All IsLevel ls → All IsLevel ms → highest (ls ++ ms) ≡ higher (highest ls) (highest ms)
  pub commutative : (l m : ℕ) → IsLevel l → IsLevel m → higher l m ≡ higher m l
  pub idempotent : (l : ℕ) → IsLevel l → higher l l ≡ l
  pub unit : (l : ℕ) → IsLevel l → higher 0 l ≡ l
  -- Every mask of the table is closed.
  pub masks_closed : All (λ (r : Row). All Closed r.takes) table
