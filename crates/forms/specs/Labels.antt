-- Levels as bits, and labels. A level is three bits: 1 where it is at least 1, 2 where it has a 2 in it, 4 where it has a 3 in it; 4, which is
-- not level-correct, has all three. The highest of two levels (L5: of a 2 and a 3, 4) is then the union of their bits.
-- A label says what a place in a term makes of a level there: bit 1, the level counts; bit 2, it is refused if it has a 2 in it; bit 4, it is
-- refused if it has a 3 in it. What is refused makes 4. The masks `up_to1`, `up_to2`, `not_transition` are the labels 6, 4, 2, "at any level" is 1;
-- with no bit the place is dropped.
use Rattle.std.specs.Prelude.{cond, [], ◌∷◌, ◌≡◌, ℕ, ◌%◌, ◌<◌, eqb, get_or}
use Rattle.std.specs.Int.Bits.{bit_and, bit_or}
-- the bits of a level are said where rows are numbers
pub use Rattle.rows.specs.Numbers.{coded}

-- the level of three bits, the first of which counts as set where another is
unfoldable pub level_of : ℕ → ℕ
level_of b = get_or (0 ∷ 1 ∷ 2 ∷ 2 ∷ 3 ∷ 3 ∷ 4 ∷ 4 ∷ []) (b % 8) 0

-- and the bits of that level
unfoldable pub whole : ℕ → ℕ
whole b = coded (level_of b)

-- what a place with label l makes of a level of bits x
abbrev pub kept : ℕ → ℕ → ℕ
kept l x = cond (eqb (l % 2) 0) 0 x

abbrev pub refused : ℕ → ℕ → ℕ
refused l x = cond (eqb (bit_and (bit_and l x) 6) 0) 0 7

abbrev pub under3 : ℕ → ℕ → ℕ
under3 l x = bit_or (kept l x) (refused l x)

unfoldable pub under : ℕ → ℕ → ℕ
under l x = under3 (l % 8) (x % 8)

-- a place with label m inside one with label l: the nearer mask counts; where there is none, the farther
abbrev pub after3 : ℕ → ℕ → ℕ
after3 l m = cond (eqb l 0) 0 (bit_or (bit_and m 6) (cond (eqb (m % 2) 0) 0 l))

unfoldable pub after : ℕ → ℕ → ℕ
after l m = after3 (l % 8) (m % 8)

-- r is this value, and has three bits
pub record Digit (value r : ℕ) : Type 0 where
  pub same : r ≡ value
  pub low : r < 8
