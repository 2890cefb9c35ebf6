-- The table of numbers one instance further in.
use Rattle.std.specs.Prelude.{◌≡◌, List, ℕ, ◌+◌, ◌<◌, get_or, length}
use Rattle.worlds.specs.World.{In, World, number_in, place}

-- each definition in `names` has the number that `numbers` holds as far after `first` as it stands in `names`
pub record Entered (names : List ℕ) (first : ℕ) (numbers before after : List ℕ) : Type 0 where
  pub size : length after ≡ length before
  pub each : (h : ℕ) → h < length before → In h names → get_or after h 0 ≡ get_or numbers (first + place h names) 0

-- the table shows which definition of the world each definition is that has N
pub record ShowsNumbers (N : ℕ → Type 0) (numbers : List ℕ) (w : World) : Type 0 where
  pub each : (h : ℕ) → N h → get_or numbers h 0 ≡ number_in w h
