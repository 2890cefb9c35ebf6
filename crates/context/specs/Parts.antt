-- A part of a list, by position: total, since `get_or` has a default, and structural in the count.
use Rattle.std.specs.Prelude.{cond, List, [], ◌∷◌, ℕ, zero, suc, eqb, get_or}

unfoldable pub part : List ℕ → ℕ → ℕ → List ℕ
part xs at zero = []
part xs at (suc n) = get_or xs at 0 ∷ part xs (suc at) n

-- the place of the first that equals x; the length if there is none
unfoldable pub place_of : ℕ → List ℕ → ℕ
place_of x [] = 0
place_of x (y ∷ ys) = cond (eqb x y) 0 (suc (place_of x ys))
