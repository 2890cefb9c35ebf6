-- A table by name for a context, the codes of which stand in a list from one place to another. Definitions only.
use Rattle.std.specs.Prelude.{◌≡◌, cond, List, ℕ, ◌+◌, ◌-◌, ◌*◌, ◌/◌, ◌%◌, ◌<◌, eqb, get_or, length, set}
use Rattle.std.proofs.Math.Option.{Option, none, some}
use Rattle.context.specs.Lookup.{code_named}
use Rattle.context.specs.Parts.{part}
use Rattle.context.specs.Entries.{word_count}
use Rattle.tokens.specs.Token.{number_at}

-- the code that an entry stands for: 0 for none, else 1 more than its place in the context
unfoldable pub code_at : List ℕ → ℕ → ℕ → Option ℕ
code_at contexts from w = cond (eqb w 0) none (some (get_or contexts (from + (w - 1)) 0))

-- two bytes for each name
abbrev pub name_bytes : ℕ
name_bytes = 2 * word_count

unfoldable pub placed : List ℕ → ℕ → ℕ → List ℕ
placed table i w = set (set table i (w / 256)) (i + 1) (w % 256)

-- each entry that there is stands for the first code of its name, of those from place i on
pub record TabledFrom (names contexts : List ℕ) (from end i : ℕ) (table : List ℕ) : Type 0 where
  pub at : (n : ℕ) → 2 * n + 1 < length table → code_at contexts from (number_at table (2 * n)) ≡ code_named names n (part contexts i (end - i))

abbrev pub Tabled : List ℕ → List ℕ → ℕ → ℕ → List ℕ → Type 0
Tabled names contexts from end table = TabledFrom names contexts from end from table

pub record Zeroed (table : List ℕ) : Type 0 where
  pub at : (n : ℕ) → get_or table n 0 ≡ 0
