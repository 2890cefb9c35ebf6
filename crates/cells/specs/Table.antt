-- The table of the first calls of one number in a string. Definitions only.
use Rattle.std.specs.Prelude.{Bool, cond, false, true, List, [], ◌++◌, ◌∷◌, ◌≡◌, ℕ, ◌+◌, ◌*◌, ◌≤◌, ◌<◌, min, eqb, get_or, length}
use Rattle.symbols.specs.Pieces.{Shaped}
use Rattle.symbols.specs.Spell.{max_params, spell}
use Rattle.symbols.specs.Symbol.{Spelt, Symbol, call, calls, size}
use Rattle.theory.specs.Term.{Term}
use Rattle.strings.specs.Read.{far, string_at}
use Rattle.rewriting.specs.Ends.{last_from}
use Rattle.cells.specs.Words.{word_at}
use Rattle.cells.specs.declared.Layout.{Layout}

-- the longest string that is worked on, in bytes: a longer one belongs to an expansion that is too long
abbrev pub string_bytes : ℕ
string_bytes = 131072

-- how many calls of n stand in a string
abbrev pub tally : ℕ → List Symbol → ℕ
tally n [] = 0
tally n (g ∷ gs) = cond (calls (eqb n) g) 1 0 + tally n gs

-- the words of a call at most, in bytes: a place where each argument begins, one where the last ends, and two for a run
abbrev pub row_bytes : ℕ
row_bytes = 4 * (max_params + 3)

-- there are words for `room` calls
pub record Sized (l : Layout) (bytes : ℕ) : Type 0 where
  pub few : l.places ≤ max_params
  pub wide : l.stride ≡ l.places + 3
  pub fits : 4 * (l.room * l.stride) ≤ bytes
  pub small : l.room ≤ 16383
  pub some : row_bytes ≤ bytes → 0 < l.room

-- a place and the calls before it in one word
abbrev pub packed : ℕ → ℕ → ℕ
packed at rank = at * 16384 + rank

-- how many calls of n stand before a position, `known` at most
abbrev pub rank_at : ℕ → ℕ → List ℕ → ℕ → ℕ
rank_at known n a p = min known (tally n (string_at a 0 p))

-- Of each call of n that the table has words for, where its arguments begin.
pub record Noted (a : List ℕ) (n : ℕ) (l : Layout) (known : ℕ) (table : List ℕ) : Type 0 where
  pub few : known ≤ l.room
  pub first : (gs hs : List Symbol) → string_at a 0 (length a) ≡ gs ++ (call n ∷ hs) → tally n gs < known
      → word_at table (tally n gs * l.stride) ≡ packed (size gs + 2) (tally n gs + 1)

-- Of each, where its arguments begin and where they end.
pub record Tabled (a shapes : List ℕ) (n : ℕ) (l : Layout) (known : ℕ) (table : List ℕ) : Type 0 where
  pub few : known ≤ l.room
  pub each : (gs hs : List Symbol) → string_at a 0 (length a) ≡ gs ++ (call n ∷ hs) → tally n gs < known → (i : ℕ) → i ≤ l.places
      → word_at table (tally n gs * l.stride + i)
      ≡ packed (last_from a shapes i (get_or shapes n 0) (size gs + 2)) (rank_at known n a (last_from a shapes i (get_or shapes n 0) (size gs + 2)))

-- The ends are found, if the string is that of a term.
pub record EndsCalls (a shapes : List ℕ) (n : ℕ) (l : Layout) (known : ℕ) (table table' : List ℕ) (r : Bool) : Type 0 where
  pub yes : r ≡ true → (σ : ℕ → ℕ) (t : Term) → ((k : ℕ) → σ k ≡ get_or shapes k 0) → Shaped σ t → far (spell σ t) ≡ false → Spelt a 0 (spell σ t) (length a)
      → Noted a n l known table → Tabled a shapes n l known table'
