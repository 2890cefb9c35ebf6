-- Numbers of four bytes, most significant first. Definitions only.
use Rattle.std.specs.Prelude.{List, [], ◌∷◌, ℕ, ◌+◌, ◌*◌, ◌/◌, ◌%◌}
use Rattle.tokens.specs.Token.{number_at}

abbrev pub four : ℕ → List ℕ
four v = v / 16777216 ∷ v / 65536 % 256 ∷ v / 256 % 256 ∷ v % 256 ∷ []

-- the number at place i
unfoldable pub word_at : List ℕ → ℕ → ℕ
word_at s i = number_at s (4 * i) * 65536 + number_at s (4 * i + 2)
