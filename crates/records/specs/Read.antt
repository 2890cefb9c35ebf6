-- What is read of a record, by the bytes that the reader loses, and what memory sums up to. Definitions only.
use Rattle.std.specs.Prelude.{List, Option, ℕ, ◌≡◌, ◌⊎◌, ◌+◌, ◌*◌, ◌%◌, ◌≤◌, ◌<◌, fold, get_or, length, take}
use Rattle.std.specs.Io.KnownBytes.{Consumes, IsAtEnd}

-- the number n, in three bytes, most significant first
pub record Numbered (before after : Option (List ℕ)) (n : ℕ) : Type 0 where
  pub bytes : List ℕ
  pub long : length bytes ≡ 3
  pub lost : Consumes before after bytes
  pub value : n ≡ 65536 * get_or bytes 0 0 + 256 * get_or bytes 1 0 + get_or bytes 2 0
  pub small : n ≤ 16777215

-- that number, and then so many bytes, which stand at the front of the space
pub record Part (before after : Option (List ℕ)) (space : List ℕ) (n : ℕ) : Type 0 where
  pub between : Option (List ℕ)
  pub number : Numbered before between n
  pub fits : n ≤ length space
  pub lost : Consumes between after (take n space)

-- no part: the input is at its end, or a number was read for which there is no room
abbrev pub NoPart : (before after : Option (List ℕ)) (space : List ℕ) → Type 0
NoPart before after space = IsAtEnd after ⊎ ((n : ℕ) × Numbered before after n × (length space < n))

-- the sum of bytes, each weighing 31 times as much as the one after it
abbrev pub summed : List ℕ → ℕ
summed memory = fold (λ s x. (s % 65521 * 31 + x) % 65521) 0 memory
