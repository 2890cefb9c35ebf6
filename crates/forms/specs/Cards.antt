-- Cards as the code finds them: trying a form at a level or two, bits put beside bits, and a card's struct as the 16 bytes of paper 02, L7.
use Rattle.std.specs.Prelude.{Bool, List, [], ◌++◌, ◌∷◌, ◌≡◌, ℕ, suc, ◌%◌, ◌*◌, ◌+◌, ◌/◌, ◌<◌, ◌^◌}
use Rattle.std.specs.Int.Bits.{bit_or}
use Rattle.theory.specs.Card.{bit_if, four_bytes, pair_bit, pairs_with}
use Rattle.forms.specs.declared.card.Card.{Card}
use Rattle.forms.specs.Labels.{coded, under}

-- the label of parameter i
abbrev pub label_at : ℕ → ℕ → ℕ
label_at w i = w / 2 ^ (i * 3 + 3) % 8

-- the bits of a form's level with parameter i at l, others at 0
abbrev pub probe : ℕ → ℕ → ℕ → ℕ
probe w i l = bit_or (w % 8) (under (label_at w i) (coded l))

-- r is x with bit k beside it, where b says so, and has no higher bit
pub record WithBit (x k : ℕ) (b : Bool) (r : ℕ) : Type 0 where
  pub same : r ≡ x + bit_if b k
  pub low : r < 2 ^ suc k

-- r is x with the pair bits of parameter j beside it, whatever the number of parameters, and has no higher bit
pub record Paired (level : List ℕ → ℕ) (j x r : ℕ) : Type 0 where
  pub same : (n : ℕ) → j < n → r ≡ x + pairs_with n level j j
  pub low : r < 2 ^ pair_bit 0 (suc j)

-- "byte 0 the parameter count, 1 the level with all at 0, 2 the weights, 3 to 10 a mask of levels taken per parameter, 11 to 14 the pairs (big-endian), 15 zero"
abbrev pub laid_out : Card → List ℕ
laid_out c = c.params ∷ c.base ∷ c.weights ∷ (c.masks ++ (four_bytes c.pairs ++ (0 ∷ [])))
