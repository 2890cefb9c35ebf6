-- The parts of a payload, by its tag. Definitions only.
use Rattle.std.specs.Prelude.{ℕ, zero, suc, ◌+◌, ◌-◌, ◌/◌, ◌%◌, Bool, true, false, cond, List, ltb, eqb, length, get_or, Option, None, Some}
use Rattle.tokens.specs.Token.{number_at}
use Rattle.tokens.specs.Expr.{whole_of}
use Rattle.fields.specs.Substitution.{part, substitutions_fit}
use Rattle.fields.specs.declared.Parts.{Parts}
use Rattle.fields.specs.declared.Parts.TheVariants.{Module, Extends, Constant, Variable, Definition, Instance, EndModule, Assume, Theorem, Cut}

-- the name that fills a payload
unfoldable pub sole_name : List ℕ → Option ℕ
sole_name p = cond (eqb (length p) 2) (cond (eqb (number_at p 0) 0) None (Some (number_at p 0))) None

-- Of a payload p that begins at position `base`: "1 module: name."
unfoldable pub module_part : List ℕ → Parts
module_part p = cond (eqb (length p) 2) (cond (eqb (number_at p 0) 0) Cut (Module (number_at p 0))) Cut

-- "4 VARIABLE: name."
unfoldable pub variable_part : List ℕ → Parts
variable_part p = cond (eqb (length p) 2) (cond (eqb (number_at p 0) 0) Cut (Variable (number_at p 0))) Cut

-- k numbers of two bytes, none 0
unfoldable pub all_named : ℕ → List ℕ → ℕ → Bool
all_named zero p at = true
all_named (suc k) p at = cond (eqb (number_at p at) 0) false (all_named k p (at + 2))

-- "2 EXTENDS: one or more module names."
unfoldable pub extends_part : List ℕ → ℕ → Parts
extends_part p base =
    cond (eqb (length p) 0) Cut
    (cond (eqb (length p % 2) 0)
    (cond (all_named (length p / 2) p 0) (Extends base (length p / 2)) Cut)
    Cut)

-- "3 CONSTANT: name, argument count (byte)."
unfoldable pub constant_part : List ℕ → Parts
constant_part p = cond (eqb (length p) 3) (cond (eqb (number_at p 0) 0) Cut (Constant (number_at p 0) (get_or p 2 0))) Cut

-- "5 definition: name, parameter count (byte), expression."
unfoldable pub definition_part : List ℕ → ℕ → Parts
definition_part p base =
    cond (ltb (length p) 3) Cut
    (cond (eqb (number_at p 0) 0) Cut
    (cond (whole_of (part p 3 (length p - 3))) (Definition (number_at p 0) (get_or p 2 0) (base + 3) (length p - 3)) Cut))

-- "parameter count (byte, 0 if unnamed)"
abbrev pub lawful_head : ℕ → ℕ → Bool
lawful_head n k = cond (eqb n 0) (eqb k 0) true

-- "6 INSTANCE: instance name (0 is unnamed), parameter count (byte, 0 if unnamed), module name, number of substitutions (byte)"
unfoldable pub instance_rest : List ℕ → ℕ → ℕ → ℕ → Parts
instance_rest p base n m =
    cond (lawful_head n (get_or p 2 0))
    (cond (substitutions_fit (get_or p 5 0) p 6) (Instance n (get_or p 2 0) m (get_or p 5 0) (base + 6)) Cut)
    Cut

unfoldable pub instance_part : List ℕ → ℕ → Parts
instance_part p base = cond (ltb (length p) 6) Cut (cond (eqb (number_at p 3) 0) Cut (instance_rest p base (number_at p 0) (number_at p 3)))

-- "7 end of module: empty."
unfoldable pub end_part : List ℕ → Parts
end_part p = cond (eqb (length p) 0) EndModule Cut

-- "8 ASSUME, 9 THEOREM: an expression."
abbrev pub formula_part : List ℕ → Parts → Parts
formula_part p x = cond (whole_of p) x Cut

unfoldable pub assume_part : List ℕ → ℕ → Parts
assume_part p base = formula_part p (Assume base (length p))

unfoldable pub theorem_part : List ℕ → ℕ → Parts
theorem_part p base = formula_part p (Theorem base (length p))

-- "The tag is one of nine"
unfoldable pub parts_of : ℕ → List ℕ → ℕ → Parts
parts_of tag p base =
    cond (eqb tag 1) (module_part p)
    (cond (eqb tag 2) (extends_part p base)
    (cond (eqb tag 3) (constant_part p)
    (cond (eqb tag 4) (variable_part p)
    (cond (eqb tag 5) (definition_part p base)
    (cond (eqb tag 6) (instance_part p base)
    (cond (eqb tag 7) (end_part p)
    (cond (eqb tag 8) (assume_part p base)
    (cond (eqb tag 9) (theorem_part p base)
    Cut))))))))
