-- Text put into lent memory.
use Rattle.std.specs.Prelude.{List, ◌≡◌, ℕ, ◌+◌, length}
use Rattle.std.proofs.lemmas.List.Edits.{sets}

-- The bytes bs stand from place `at` on, every other byte is as it was, and the place after them is `next`.
pub record Writes (before after : List ℕ) (at : ℕ) (bs : List ℕ) (next : ℕ) : Type 0 where
  pub same : after ≡ sets before at bs
  pub ends : next ≡ at + length bs
