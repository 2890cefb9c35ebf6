-- What stands after a token's own symbol: its arguments, all of them or those whose bits are set, the last in brackets where the token binds a
-- variable there.
use Rattle.std.specs.Prelude.{Bool, true, false, cond, ◌&&◌, ◌||◌, List, [], ◌∷◌, ◌++◌, ◌≡◌, ℕ, suc, ◌/◌, ◌%◌, eqb, length}
use Rattle.theory.specs.Term.{Terms}
use Rattle.theory.specs.Tree.{◌▹◌, count, ⟨⟩}
use Rattle.symbols.specs.Symbol.{Symbol}
use Rattle.symbols.specs.Spell.{bracketed, spell}
use Rattle.spelling.specs.Put.{Put}

-- the first of the arguments left is written
abbrev pub is_written : Bool → ℕ → Bool
is_written all m = all || eqb (m % 2) 1

-- how many variables are bound in an argument that others follow
abbrev pub bound_before : Bool → ℕ → ℕ
bound_before binds k = cond (binds && eqb k 0) 1 0

abbrev pub part : Bool → ℕ → Bool → ℕ → List Symbol → List Symbol
part all m binds k gs = cond (is_written all m) (bracketed (bound_before binds k) gs) []

unfoldable pub parts : (ℕ → ℕ) → Bool → ℕ → Bool → Terms → List Symbol
parts σ all m binds ⟨⟩ = []
parts σ all m binds (t ▹ ts) = part all m binds (count ts) (spell σ t) ++ parts σ all (m / 2) binds ts

-- Before an argument that is written its bracket is put, if it has one. Any other is read with no room left, so that nothing is put.
abbrev pub opening : Bool → List ℕ
opening inside = cond inside (11 ∷ []) []

abbrev pub closing : Bool → List ℕ
closing inside = cond inside (12 ∷ []) []

pub record Opened (written inside : Bool) (out : List ℕ) (q : ℕ) (out' : List ℕ) (q' : ℕ) : Type 0 where
  pub put : written ≡ true → Put out q (opening inside) out' q'
  pub skipped : written ≡ false → (out' ≡ out) × (q' ≡ suc (length out))

-- after it: q is the position before the argument, p the position after what was put for it
pub record Closed (written inside : Bool) (q : ℕ) (out : List ℕ) (p : ℕ) (out' : List ℕ) (p' : ℕ) : Type 0 where
  pub put : written ≡ true → Put out p (closing inside) out' p'
  pub skipped : written ≡ false → (out' ≡ out) × (p' ≡ q)
