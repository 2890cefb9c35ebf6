-- A table of the definitions by name: for a name and a number, the first definition of that name from that number on. Definitions only.
use Rattle.std.specs.Prelude.{◌≡◌, cond, ◌&&◌, List, ℕ, ◌+◌, ◌-◌, ◌*◌, ◌<◌, ◌≤◌, eqb, leb, get_or, length}
use Rattle.std.proofs.Math.Option.{Option, none, some}
use Rattle.limits.specs.Limits.{max_definitions}
use Rattle.theory.specs.Lists.{find, numbers_from, or_else}
use Rattle.context.specs.Entries.{word_count}

-- a byte for each name,
abbrev pub rows_from : ℕ
rows_from = word_count

-- and one for each two definitions
abbrev pub next_bytes : ℕ
next_bytes = rows_from + max_definitions * max_definitions

unfoldable pub first_from : List ℕ → ℕ → ℕ → Option ℕ
first_from names f s = find (λ g. eqb f (get_or names g 0)) (numbers_from s (max_definitions - s))

-- Under a name stands a definition of that name, if there is one; in the row of a definition stands, at s, the first of its name from s on, if
-- there is one. What stands there otherwise is told by its name.
abbrev pub row_at : List ℕ → ℕ → ℕ → ℕ
row_at t r s = get_or t (rows_from + (max_definitions * r + s)) 0

unfoldable pub next_in : List ℕ → List ℕ → ℕ → ℕ → Option ℕ
next_in names t f s =
    let g = row_at t (get_or t f 0) s in
    cond (eqb f (get_or names (get_or t f 0) 0) && (leb s g && eqb f (get_or names g 0))) (some g) none

-- the same, once the row is known: what it says at s is g
abbrev pub told_by : List ℕ → ℕ → ℕ → ℕ → Option ℕ
told_by names f s g = cond (leb s g && eqb f (get_or names g 0)) (some g) none

-- a table that is there is right
pub record Nexted (names t : List ℕ) : Type 0 where
  pub at : (f s : ℕ) → f < rows_from → s < max_definitions → next_bytes ≤ length t → next_in names t f s ≡ first_from names f s

-- under the name of each of the first n definitions stands one of that name
pub record Represented (names : List ℕ) (n : ℕ) (t : List ℕ) : Type 0 where
  pub size : length t ≡ next_bytes
  pub fits : (g : ℕ) → g < n → get_or names g 0 < rows_from
  pub low : (g : ℕ) → g < n → get_or t (get_or names g 0) 0 < max_definitions
  pub same : (g : ℕ) → g < n → get_or names (get_or t (get_or names g 0) 0) 0 ≡ get_or names g 0

-- the row of definition r is right from s on, and what stands before it is as it was
pub record Rowed (names t₀ : List ℕ) (r s : ℕ) (t : List ℕ) : Type 0 where
  pub size : length t ≡ next_bytes
  pub before : (i : ℕ) → i < rows_from + max_definitions * r → get_or t i 0 ≡ get_or t₀ i 0
  pub at : (k : ℕ) → s ≤ k → k < max_definitions → row_at t r k ≡ or_else 0 (first_from names (get_or names r 0) k)
