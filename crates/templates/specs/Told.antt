-- What stands when an expansion is asked for: the store shows every chain of a state.
use Rattle.std.specs.Prelude.{List, ℕ, ◌≤◌}
use Rattle.limits.specs.Limits.{file_bytes, max_declarations}
use Rattle.rules.specs.State.{State}
use Rattle.laws.proofs.Within.{Within}
use Rattle.texts.specs.Text.{Declarations}
use Rattle.store.specs.declared.Store.{Store}
use Rattle.context.specs.declared.Counts.{Counts}
use Rattle.worlds.specs.Rows.{Row}
use Rattle.worlds.proofs.Depth.{Depths}
use Rattle.chains.specs.Ready.{Ready}

-- the file up to `end` is what was read
pub record Told (file refs : List ℕ) (v : Store) (declared : List ℕ) (n : ℕ) : Type 0 where
  pub counts : Counts
  pub state : State
  pub rows : List Row
  pub decls : Declarations
  pub end : ℕ
  pub ready : Ready file refs v declared n counts state rows decls end
  pub room : n ≤ max_declarations
  pub short : end ≤ file_bytes
  pub within : Within state
  pub depths : Depths state rows
