-- Bytes put into lent memory.
use Rattle.std.specs.Prelude.{List, [], ◌∷◌, ◌≡◌, ℕ, suc, ◌+◌, ◌%◌, min, length, set}

-- bytes put one after another from a position on; a position past the end changes nothing
unfoldable pub paste : List ℕ → ℕ → List ℕ → List ℕ
paste out q [] = out
paste out q (b ∷ bs) = paste (set out q (b % 256)) (suc q) bs

-- Bytes are put from position q on, and q' is the position after them. All positions past the end are taken for one: there was no room.
pub record Put (out : List ℕ) (q : ℕ) (bs out' : List ℕ) (q' : ℕ) : Type 0 where
  pub same : out' ≡ paste out q bs
  pub next : min q' (suc (length out)) ≡ min (q + length bs) (suc (length out))
