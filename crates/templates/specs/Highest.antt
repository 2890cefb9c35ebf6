-- The highest number that a string calls.
use Rattle.std.specs.Prelude.{List, [], ◌∷◌, ℕ, suc, max}
use Rattle.symbols.specs.Symbol.{Symbol, begin, call, code, end, name, number, par, var}

-- of a call, one more than its number
abbrev pub number_called : Symbol → ℕ
number_called (par i) = 0
number_called (var j) = 0
number_called (name x k) = 0
number_called (code c) = 0
number_called (number v) = 0
number_called (call n) = suc n
number_called begin = 0
number_called end = 0

-- 0 where none is called
abbrev pub highest_number : List Symbol → ℕ
highest_number [] = 0
highest_number (g ∷ gs) = max (number_called g) (highest_number gs)
