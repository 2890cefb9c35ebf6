-- The substitutions of an INSTANCE field, by position. Definitions only.
use Rattle.std.specs.Prelude.{ℕ, zero, suc, ◌+◌, ◌-◌, Bool, false, cond, List, ltb, eqb, length, take, drop}
use Rattle.tokens.specs.Token.{number_at}
use Rattle.tokens.specs.Expr.{whole_of}
use Rattle.fields.specs.declared.substitutions.Substitution.{Substitution}

-- n bytes from a position on
abbrev pub part : List ℕ → ℕ → ℕ → List ℕ
part s at n = take n (drop at s)

-- "each is a declared name, a two-byte length, an expression"
abbrev pub substitution_at : List ℕ → ℕ → Substitution
substitution_at s at = record { name = number_at s at; start = at + 4; len = number_at s (at + 2) }

abbrev pub next_substitution : List ℕ → ℕ → ℕ
next_substitution s at = at + 4 + number_at s (at + 2)

-- its bytes are there, the name is not 0, and the expression fills its length
unfoldable pub substitution_fits : List ℕ → ℕ → Bool
substitution_fits p at =
    cond (ltb (length p - at) 4) false
    (cond (eqb (number_at p at) 0) false
    (cond (ltb (length p - (at + 4)) (number_at p (at + 2))) false
    (whole_of (part p (at + 4) (number_at p (at + 2))))))

-- so many of them, and nothing left
unfoldable pub substitutions_fit : ℕ → List ℕ → ℕ → Bool
substitutions_fit zero p at = eqb at (length p)
substitutions_fit (suc k) p at = cond (substitution_fits p at) (substitutions_fit k p (next_substitution p at)) false
