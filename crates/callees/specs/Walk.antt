-- The chain of one definition in arrays, one level after another.
use Rattle.std.specs.Prelude.{List, ◌≡◌, ℕ, ◌+◌, ◌*◌, ◌≤◌, ◌<◌, get_or, length, set}
use Rattle.limits.specs.Limits.{max_declarations, max_definitions, max_modules}
use Rattle.rules.specs.State.{State}
use Rattle.laws.proofs.Within.{Within}
use Rattle.texts.specs.Text.{Declarations}
use Rattle.store.specs.Store.{source_at}
use Rattle.store.specs.declared.Store.{Store}
use Rattle.store.specs.declared.Facts.{Facts}
use Rattle.context.specs.declared.Counts.{Counts}
use Rattle.worlds.specs.Rows.{Row}
use Rattle.worlds.proofs.Depth.{Depths}
use Rattle.chains.specs.Ready.{Ready}
use Rattle.chains.specs.Results.{Itselves}
use Rattle.chains.specs.Walk.{NumbersEntered, code_at, outer_after}
use Rattle.unfolding.specs.CalleeTerm.{Entered, max_links, row_of}

-- the arrays have room for a chain
pub record Sized (numbers currents outers : List ℕ) : Type 0 where
  pub numbers_size : length numbers ≡ max_definitions * max_modules
  pub currents_size : length currents ≡ max_modules
  pub outers_size : length outers ≡ max_modules

-- A row has been put at level l; those before it stand as they stood.
pub record RowPut (before : List ℕ) (l : ℕ) (row after : List ℕ) : Type 0 where
  pub here : row_of after l ≡ row
  pub kept : (j : ℕ) → j < l → row_of after j ≡ row_of before j

-- The row of level l + 1 is that of level l one instance further in.
pub record RowEntered (facts : List Facts) (orders heads : List ℕ) (o l : ℕ) (numbers numbers' : List ℕ) : Type 0 where
  pub entered : NumbersEntered facts orders heads o (row_of numbers l) (row_of numbers' (l + 1))
  pub kept : (j : ℕ) → j < l + 1 → row_of numbers' j ≡ row_of numbers j

pub record LevelEntered (facts : List Facts) (orders heads : List ℕ) (l : ℕ) (numbers numbers' currents currents' outers outers' : List ℕ) : Type 0 where
  pub row : RowEntered facts orders heads (code_at facts (get_or currents l 0)) l numbers numbers'
  pub current : currents' ≡ set currents (l + 1) (source_at facts (get_or currents l 0))
  pub outer : outers' ≡ set outers (l + 1) (outer_after facts (get_or outers l 0) (get_or currents l 0))

pub record ChainStarted (D : ℕ) (numbers currents outers : List ℕ) : Type 0 where
  pub numbered : Itselves (row_of numbers 0)
  pub current : get_or currents 0 0 ≡ D
  pub outer : get_or outers 0 0 ≡ 0

-- k is, whatever stands, the number of links of the chain of definition D, and the arrays hold it.
pub record ChainEntered (v : Store) (D k : ℕ) (numbers currents outers : List ℕ) : Type 0 where
  pub few : k ≤ max_links
  pub chain : (file refs : List ℕ) (n : ℕ) (c : Counts) (s : State) (rs : List Row) (decls : Declarations) (end : ℕ)
      (ready : Ready file refs v v.declared n c s rs decls end) → D < c.definitions → n ≤ max_declarations → Within s → Depths s rs
      → Entered s rs ready.worlds.runs v.facts D k numbers currents outers
