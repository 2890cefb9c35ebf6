-- What the parts of a field, by position, tell of the field that the rules read. Definitions only.
use Rattle.std.specs.Prelude.{◌≡◌, List, [], ◌∷◌, ℕ, zero, suc, ◌+◌, ◌-◌, ◌≤◌, ◌<◌, length, drop}
use Rattle.std.proofs.Math.Option.{some}
use Rattle.rules.specs.Bytes.{cut, got}
use Rattle.rules.specs.Expression.{Expression, expression}
use Rattle.rules.specs.Field.{Field, begin_module, extends, declare_constant, declare_variable, definition, instance, end_module, assume, theorem, Substitution, write_field, field}
use Rattle.tokens.specs.Token.{number_at}
use Rattle.fields.specs.Substitution.{part, substitution_at, next_substitution}
use Rattle.fields.specs.declared.Parts.{Parts}
use Rattle.fields.specs.declared.Parts.TheVariants.{Module, Extends, Constant, Variable, Definition, Instance, EndModule, Assume, Theorem, Cut, EndOfFile}

-- k names from a position on
abbrev pub names_at : List ℕ → ℕ → ℕ → List ℕ
names_at s at zero = []
names_at s at (suc k) = number_at s at ∷ names_at s (at + 2) k

-- the substitutions that stand from a position on, one after another, up to the end
abbrev pub SubstitutionsAt : List ℕ → ℕ → ℕ → List Substitution → Type 0
SubstitutionsAt s at end [] = at ≡ end
SubstitutionsAt s at end (x ∷ xs) =
    ((substitution_at s at).name ≡ x.0) × (expression.read (part s (substitution_at s at).start (substitution_at s at).len) ≡ some x.1)
    × (next_substitution s at ≤ end) × SubstitutionsAt s (next_substitution s at) end xs

-- the expression of l bytes at a position, the last of a field that ends at `end`
abbrev pub ExpressionAt : List ℕ → ℕ → ℕ → ℕ → Expression → Type 0
ExpressionAt s end at l e = (at + l ≡ end) × (expression.read (part s at l) ≡ some e)

-- The parts of a field that ends at `end`: what they say of the field that the rules read.
abbrev pub Tells : List ℕ → ℕ → Parts → Field → Type 0
Tells s end (Module n) f = f ≡ begin_module n
Tells s end (Extends at k) f = (1 ≤ k) × (f ≡ extends (number_at s at) (names_at s (at + 2) (k - 1)))
Tells s end (Constant n k) f = f ≡ declare_constant n k
Tells s end (Variable n) f = f ≡ declare_variable n
Tells s end (Definition n k at l) f = (e : Expression) × ExpressionAt s end at l e × (f ≡ definition n k e)
Tells s end (Instance n p m k at) f = (ss : List Substitution) × (length ss ≡ k) × SubstitutionsAt s at end ss × (f ≡ instance n p m ss)
Tells s end EndModule f = f ≡ end_module
Tells s end (Assume at l) f = (e : Expression) × ExpressionAt s end at l e × (f ≡ assume e)
Tells s end (Theorem at l) f = (e : Expression) × ExpressionAt s end at l e × (f ≡ theorem e)
Tells s end Cut f = ⊥
Tells s end EndOfFile f = ⊥

-- a field that the rules read at a position: the parts tell of it, and the next position is where its bytes end, which is where the rules go on
abbrev pub IsField : List ℕ → ℕ → ℕ → Parts → Type 0
IsField s at next x = (f : Field) × Tells s next x f × (field.read (drop at s) ≡ got f (drop next s)) × (next ≡ at + length (write_field f)) × (next ≤ length s)

-- By the answer: at the end of the file nothing is left; `Cut` is where bytes are left and the rules read no field (cause 3); else there is a field.
abbrev pub Reads : List ℕ → ℕ → ℕ → Parts → Type 0
Reads s at next (Module n) = IsField s at next (Module n)
Reads s at next (Extends p k) = IsField s at next (Extends p k)
Reads s at next (Constant n k) = IsField s at next (Constant n k)
Reads s at next (Variable n) = IsField s at next (Variable n)
Reads s at next (Definition n k p l) = IsField s at next (Definition n k p l)
Reads s at next (Instance n q m k p) = IsField s at next (Instance n q m k p)
Reads s at next EndModule = IsField s at next EndModule
Reads s at next (Assume p l) = IsField s at next (Assume p l)
Reads s at next (Theorem p l) = IsField s at next (Theorem p l)
Reads s at next Cut = (at < length s) × (field.read (drop at s) ≡ cut)
Reads s at next EndOfFile = (length s ≤ at) × (drop at s ≡ [])
