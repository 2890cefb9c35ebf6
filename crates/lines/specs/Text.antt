-- The listing of what the store and the forms hold.
use Rattle.std.specs.Prelude.{List, [], ◌∷◌, ◌++◌, ℕ, zero, suc, ◌+◌, ◌*◌, get_or}
use Rattle.limits.specs.Limits.{card_bytes, max_definitions}
use Rattle.theory.specs.Card.{card_of}
use Rattle.rules.specs.Listing.{decimal, hexadecimal, line}
use Rattle.forms.specs.Forms.{form_at, level_at}
use Rattle.store.specs.Store.{via_at}
use Rattle.store.specs.declared.Facts.{Facts}
use Rattle.context.specs.Lookup.{arity_at}

-- "the card's 32 lower-case hexadecimal digits"
abbrev pub card_digits : ℕ → (List ℕ → ℕ) → List ℕ
card_digits n level = hexadecimal (card_of n level)

-- a number and the byte after it
abbrev pub number : ℕ → ℕ → List ℕ
number k after = decimal k ++ (after ∷ [])

-- "number, instance name or 0, name, parameter count", and the card
unfoldable pub line_at : List ℕ → List Facts → List ℕ → ℕ → List ℕ
line_at names facts words g =
    line (decimal g ∷ decimal (via_at facts g) ∷ decimal (get_or names g 0) ∷ decimal (arity_at facts g) ∷ card_digits (arity_at facts g) (level_at (form_at words g)) ∷ [])

-- of the first n definitions
abbrev pub lines_of : List ℕ → List Facts → List ℕ → ℕ → List ℕ
lines_of names facts words zero = []
lines_of names facts words (suc n) = lines_of names facts words n ++ line_at names facts words n

-- "First line: `ok`, number of definitions."
abbrev pub heading : ℕ → List ℕ
heading n = line ((111 ∷ 107 ∷ []) ∷ decimal n ∷ [])

abbrev pub text_of : List ℕ → List Facts → List ℕ → ℕ → List ℕ
text_of names facts words n = heading n ++ lines_of names facts words n

-- the word of a refusal and the space after it
abbrev pub refused_word : List ℕ
refused_word = 114 ∷ 101 ∷ 102 ∷ 117 ∷ 115 ∷ 101 ∷ 100 ∷ 32 ∷ []

-- "A refusal prints one line: `refused`, number, place."
abbrev pub refusal_text : ℕ → ℕ → List ℕ
refusal_text c p = line ((114 ∷ 101 ∷ 102 ∷ 117 ∷ 115 ∷ 101 ∷ 100 ∷ []) ∷ decimal c ∷ decimal p ∷ [])

-- room for the longest line: four numbers of five digits, each with the byte after it, two digits for each byte of the card, and the line feed
abbrev pub line_room : ℕ
line_room = 4 * 6 + 2 * card_bytes + 1

-- and for the longest text: the heading, and a line for each definition
abbrev pub text_room : ℕ
text_room = 9 + line_room * max_definitions
