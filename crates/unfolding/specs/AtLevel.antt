-- The walk along the chain of definition D, from D back to its original: what is known after l instances have been entered.
use Rattle.std.specs.Prelude.{List, ◌++◌, ◌≡◌, ℕ, ◌≤◌, length}
use Rattle.rules.specs.State.{State, meanings}
use Rattle.worlds.proofs.InWorld.{Comes}
use Rattle.worlds.proofs.Runs.{Run}
use Rattle.worlds.specs.Rows.{Row, source_of, world_of}
use Rattle.worlds.specs.World.{World, params_in}
use Rattle.entering.specs.Numbering.{ShowsNumbers}
use Rattle.chains.proofs.Knowing.{DefinedIn}

-- cur is D's source after l links, `outer` the parameters of those links, `numbers` says which definition each of the module there is; the
-- links are `world`, the innermost first
pub record AtLevel (s : State) (rs : List Row) (bs : List Run) (D l cur outer : ℕ) (numbers : List ℕ) : Type 0 where
  pub world : World
  pub split : world_of rs D ≡ world_of rs cur ++ world
  pub source : source_of rs D ≡ source_of rs cur
  pub before : cur ≤ D
  pub level : l ≡ length world
  pub around : outer ≡ params_in world
  pub comes : Comes (meanings s) bs world cur D
  pub numbered : ShowsNumbers (DefinedIn world) numbers world
