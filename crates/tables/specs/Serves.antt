-- The tables that a walk is lent, for the context whose codes stand from one place to another. Definitions only.
use Rattle.std.specs.Prelude.{List, ℕ, ◌^◌, ◌<◌}
use Rattle.store.specs.declared.Store.{Store}
use Rattle.tables.specs.Brought.{Nexted}
use Rattle.tables.specs.Names.{Tabled}
use Rattle.tables.specs.Tables.{tables_in}

pub record Serves (v : Store) (tables : List ℕ) (from end : ℕ) : Type 0 where
  pub places : Tabled v.names v.contexts from end (tables_in tables).places
  pub brought : Nexted v.names (tables_in tables).nexts
  pub low : from < 2 ^ 32
