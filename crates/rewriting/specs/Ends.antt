-- Where the arguments of a call stand: those whose bits are set follow one another.
use Rattle.std.specs.Prelude.{Bool, cond, List, ℕ, zero, suc, ◌+◌, ◌/◌, ◌%◌, eqb, length}
use Rattle.symbols.specs.Pieces.{scan}
use Rattle.symbols.specs.Spell.{max_params}
use Rattle.strings.specs.Read.{shape_in, string_at}

-- the end of an argument that begins at a position, if the lowest bit of h is set; else there is none
unfoldable pub end_of : List ℕ → List ℕ → ℕ → ℕ → ℕ
end_of a shapes h at = cond (eqb (h % 2) 1) (at + scan (shape_in shapes) 1 0 (string_at a at (length a))) at

-- the end of the last of so many arguments, where the next begins
abbrev pub last_from : List ℕ → List ℕ → ℕ → ℕ → ℕ → ℕ
last_from a shapes zero h at = at
last_from a shapes (suc k) h at = last_from a shapes k (h / 2) (end_of a shapes h at)

-- bit i of a number is set
abbrev pub bit_at : ℕ → ℕ → Bool
bit_at zero h = eqb (h % 2) 1
bit_at (suc i) h = bit_at i (h / 2)

-- how many arguments a shape speaks of: one more than the highest whose bit is set
abbrev pub places_in : ℕ → ℕ → ℕ
places_in zero h = 0
places_in (suc f) h = cond (eqb h 0) 0 (suc (places_in f (h / 2)))

unfoldable pub places_of : ℕ → ℕ
places_of h = places_in max_params h
