-- Every definition's chain of instances, as the store shows it.
use Rattle.std.specs.Prelude.{List, ◌⊎◌, ◌≡◌, ℕ, suc, ◌<◌, get_or}
use Rattle.rules.specs.State.{State, definition_at}
use Rattle.texts.specs.Text.{Declarations}
use Rattle.context.specs.Entries.{field_code}
use Rattle.store.specs.Store.{first_at, link_at, source_at}
use Rattle.store.specs.declared.Store.{Store}
use Rattle.context.specs.declared.Counts.{Counts}
use Rattle.worlds.specs.Rows.{Row, body_of, brought_row, no_row}
use Rattle.worlds.specs.World.{In, Link, brings}
use Rattle.worlds.proofs.Steps.{own_row}
use Rattle.standing.specs.Shown.{LinkShown, TextShown}

-- an own definition: its text stands where the store says
pub record Own (v : Store) (file refs : List ℕ) (decls : Declarations) (s : State) (end : ℕ) (r : Row) (D : ℕ) : Type 0 where
  pub row : r ≡ own_row D
  pub unlinked : link_at v.facts D ≡ 0
  pub text : TextShown file refs decls end (first_at v.facts D) (body_of (definition_at s D).meaning)

-- a brought one: the INSTANCE field that brought it, and the definition that it was brought from
pub record Through (v : Store) (c : Counts) (file refs : List ℕ) (decls : Declarations) (rs : List Row) (end : ℕ) (r : Row) (D : ℕ) : Type 0 where
  pub link : Link
  pub from : ℕ
  pub field : ℕ
  pub below : from < D
  pub there : In from link.names
  pub number : brings link from ≡ D
  pub follows : r ≡ brought_row link (get_or rs from no_row)
  pub source : source_at v.facts D ≡ from
  pub linked : link_at v.facts D ≡ suc field
  pub shown : LinkShown v c file refs decls end link (field_code field)

-- of every definition, rs being the rows that worlds tells of
pub record Chained (v : Store) (c : Counts) (file refs : List ℕ) (decls : Declarations) (s : State) (rs : List Row) (end : ℕ) : Type 0 where
  pub each : (D : ℕ) → D < c.definitions
      → Own v file refs decls s end (get_or rs D no_row) D ⊎ Through v c file refs decls rs end (get_or rs D no_row) D
