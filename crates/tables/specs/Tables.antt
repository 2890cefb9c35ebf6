-- The two tables that stand one after the other in lent bytes; where there are no bytes, both are empty. Definitions only.
use Rattle.std.specs.Prelude.{List, ℕ, ◌+◌, drop, take}
use Rattle.tables.specs.Brought.{next_bytes}
use Rattle.tables.specs.Names.{name_bytes}

-- the places of names in a context; and of each name the next definition from a number on
pub record Tables : Type 0 where
  pub places : List ℕ
  pub nexts : List ℕ

abbrev pub nexts_from : ℕ
nexts_from = name_bytes

abbrev pub table_bytes : ℕ
table_bytes = nexts_from + next_bytes

-- n bytes from a place on
unfoldable pub region : List ℕ → ℕ → ℕ → List ℕ
region t from n = take n (drop from t)

unfoldable pub tables_in : List ℕ → Tables
tables_in t = record { places = region t 0 name_bytes; nexts = region t nexts_from next_bytes }
