-- A level form in one number: digits of three bits. The lowest are the bits of its base, the next those of the label of parameter 0, and so on.
-- Its level at levels v is the highest of the base and of what each label makes of its parameter's level; what lies past the end of v counts as 0.
use Rattle.std.specs.Prelude.{◌≡◌, List, [], ◌∷◌, ℕ, ◌/◌, ◌^◌, ◌≤◌, get_or, length, set}
use Rattle.std.specs.Int.Bits.{bit_or}
use Rattle.theory.specs.Level.{IsLevel}
use Rattle.theory.specs.Lists.{All, param_levels}
use Rattle.forms.specs.declared.Led.{Led}
use Rattle.forms.specs.Labels.{coded, level_of, under, whole}

-- how many parameters a form has room for: an instance's eight, and then an operator's eight
abbrev pub width : ℕ
width = 16

-- what the labels in w make of levels, the lowest digit of the first
abbrev pub gives : ℕ → List ℕ → ℕ
gives w [] = 0
gives w (x ∷ v) = bit_or (under w (coded x)) (gives (w / 8) v)

-- the bits of a form's level
unfoldable pub bits_at : ℕ → List ℕ → ℕ
bits_at w v = bit_or (whole w) (gives (w / 8) v)

-- a form's level
unfoldable pub level_at : ℕ → List ℕ → ℕ
level_at w v = level_of (bits_at w v)

-- A contract speaks of a form through the levels that it gives, at all levels, 0 to 4, of the parameters that it has room for.
pub record Gives (w : ℕ) (level : List ℕ → ℕ) : Type 0 where
  pub at : (v : List ℕ) → length v ≤ width → All IsLevel v → level_at w v ≡ level v

-- Within the walk over a text it speaks of their bits.
pub record GivesBits (w : ℕ) (bits : List ℕ → ℕ) : Type 0 where
  pub at : (v : List ℕ) → length v ≤ width → All IsLevel v → bits_at w v ≡ bits v

-- the form f with the parameters from i on added, k of them, each under its label inside l, and the labels that are left
pub record Leads (f l w i k : ℕ) (r : Led) : Type 0 where
  pub form : GivesBits r.form (λ v. bit_or (bits_at f v) (under l (gives w (param_levels i k v))))
  pub labels : r.labels ≡ w / 8 ^ k

-- A table of forms: the form at place g, and the table with f at place g.
abbrev pub form_at : List ℕ → ℕ → ℕ
form_at t g = get_or t g 0

abbrev pub stored : List ℕ → ℕ → ℕ → List ℕ
stored t g f = set t g f
