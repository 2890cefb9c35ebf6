-- Examples by computation: the fields of the paper's listing example, bytes that are none, limits, and a test under binders.
use mathlib.Core.Path.{◌≡◌, refl}
use mathlib.Core.Bool.{Bool, true, false}
use mathlib.Core.List.{List, [], ◌∷◌}
use mathlib.Core.Option.{some}
use Prim.Native.Nat.{ℕ, ◌*◌}
use lib.ListN.{replicate}
use lib.Dec.{leb}
use Rattle.std.specs.Prelude.{None, Some}
use Rattle.theory.specs.Tree.{node, ⟨⟩, ◌▹◌}
use Rattle.theory.specs.Level.{row}
use Rattle.rules.specs.Expression.{Token, parameter, bound_variable, operator, instance_operator, built_in, numeral, expression}
use Rattle.rows.specs.Rows.{arity_of, binder_of}
use Rattle.tokens.specs.Token.{token_at, tagged_at}
use Rattle.tokens.specs.Expr.{Found, found, none as nothing, expr_at, whole_of}
use Rattle.tokens.specs.Fold.{fold}
use Rattle.tokens.specs.Limit.{kept_of}
use Rattle.fields.specs.Substitution.{substitution_fits, substitutions_fit}
use Rattle.fields.specs.Payload.{parts_of, module_part, extends_part, definition_part, instance_part, instance_rest, end_part, theorem_part, all_named}
use Rattle.fields.specs.Cursor.{step_at, stays, goes}
use Rattle.fields.specs.declared.Cursor.{Cursor}
use Rattle.fields.specs.declared.Parts.{Parts}
use Rattle.fields.specs.declared.Parts.TheVariants.{Module, Extends, Definition, Instance, EndModule, Theorem, Cut, EndOfFile}
use Rattle.agree.specs.Trees.{filling}
use Rattle.agree.specs.Folds.{walk, testing}

abbrev from : ℕ → ℕ → Cursor
from n o = record { number = n; offset = o }

-- 01 0002 0001  04 0002 0002  05 0007 0003 01 04 70 00 00  07 0000
abbrev example : List ℕ
example = 1 ∷ 0 ∷ 2 ∷ 0 ∷ 1 ∷ 4 ∷ 0 ∷ 2 ∷ 0 ∷ 2 ∷ 5 ∷ 0 ∷ 7 ∷ 0 ∷ 3 ∷ 1 ∷ 4 ∷ 112 ∷ 0 ∷ 0 ∷ 7 ∷ 0 ∷ 0 ∷ []

module-field : step_at example (from 0 0) ≡ goes (from 0 0) 2 (Module 1)
unfolding step_at parts_of module_part
module-field = refl

definition-field : step_at example (from 2 8) ≡ goes (from 2 8) 7 (Definition 3 1 16 4)
unfolding step_at parts_of definition_part whole_of expr_at token_at tagged_at arity_of row
definition-field = refl

end-field : step_at example (from 3 17) ≡ goes (from 3 17) 0 EndModule
unfolding step_at parts_of end_part
end-field = refl

no_field : step_at example (from 4 19) ≡ stays (from 4 19) EndOfFile
unfolding step_at
no_field = refl

-- the answer alone
abbrev answer : List ℕ → Parts
answer s = (step_at s (from 0 0)).parts

-- EXTENDS of two modules; of one and a half; of module 0
extends-two : answer (2 ∷ 0 ∷ 4 ∷ 0 ∷ 7 ∷ 1 ∷ 0 ∷ []) ≡ Extends 3 2
unfolding step_at parts_of extends_part all_named
extends-two = refl

extends-half : answer (2 ∷ 0 ∷ 3 ∷ 0 ∷ 7 ∷ 1 ∷ []) ≡ Cut
unfolding step_at parts_of extends_part all_named
extends-half = refl

extends-zero : answer (2 ∷ 0 ∷ 4 ∷ 0 ∷ 7 ∷ 0 ∷ 0 ∷ []) ≡ Cut
unfolding step_at parts_of extends_part all_named
extends-zero = refl

-- THEOREM of a name without arguments; of name 0; with a byte left over; of an unknown code
theorem-name : answer (9 ∷ 0 ∷ 4 ∷ 2 ∷ 0 ∷ 5 ∷ 0 ∷ []) ≡ Theorem 3 4
unfolding step_at parts_of theorem_part whole_of expr_at token_at tagged_at arity_of row
theorem-name = refl

theorem-zero : answer (9 ∷ 0 ∷ 4 ∷ 2 ∷ 0 ∷ 0 ∷ 0 ∷ []) ≡ Cut
unfolding step_at parts_of theorem_part whole_of expr_at token_at tagged_at arity_of row
theorem-zero = refl

theorem-over : answer (9 ∷ 0 ∷ 5 ∷ 2 ∷ 0 ∷ 5 ∷ 0 ∷ 0 ∷ []) ≡ Cut
unfolding step_at parts_of theorem_part whole_of expr_at token_at tagged_at arity_of row
theorem-over = refl

theorem-code : answer (9 ∷ 0 ∷ 2 ∷ 4 ∷ 104 ∷ []) ≡ Cut
unfolding step_at parts_of theorem_part whole_of expr_at token_at tagged_at arity_of row
theorem-code = refl

-- INSTANCE 6 of module 5 with one parameter and one substitution, that parameter; unnamed with a parameter; with a byte too many
instance-field : answer (6 ∷ 0 ∷ 12 ∷ 0 ∷ 6 ∷ 1 ∷ 0 ∷ 5 ∷ 1 ∷ 0 ∷ 9 ∷ 0 ∷ 2 ∷ 0 ∷ 0 ∷ []) ≡ Instance 6 1 5 1 9
unfolding step_at parts_of instance_part instance_rest substitutions_fit substitution_fits whole_of expr_at token_at tagged_at arity_of row
instance-field = refl

instance-unnamed : answer (6 ∷ 0 ∷ 12 ∷ 0 ∷ 0 ∷ 1 ∷ 0 ∷ 5 ∷ 1 ∷ 0 ∷ 9 ∷ 0 ∷ 2 ∷ 0 ∷ 0 ∷ []) ≡ Cut
unfolding step_at parts_of instance_part instance_rest substitutions_fit substitution_fits whole_of expr_at token_at tagged_at arity_of row
instance-unnamed = refl

instance-over : answer (6 ∷ 0 ∷ 13 ∷ 0 ∷ 6 ∷ 1 ∷ 0 ∷ 5 ∷ 1 ∷ 0 ∷ 9 ∷ 0 ∷ 2 ∷ 0 ∷ 0 ∷ 0 ∷ []) ≡ Cut
unfolding step_at parts_of instance_part instance_rest substitutions_fit substitution_fits whole_of expr_at token_at tagged_at arity_of row
instance-over = refl

-- an unknown tag; a payload past the end; two bytes
tag-ten : answer (10 ∷ 0 ∷ 0 ∷ []) ≡ Cut
unfolding step_at parts_of
tag-ten = refl

past_end : answer (1 ∷ 0 ∷ 2 ∷ 0 ∷ []) ≡ Cut
unfolding step_at
past_end = refl

two_bytes : answer (7 ∷ 0 ∷ []) ≡ Cut
unfolding step_at
two_bytes = refl

-- the body of the example's definition, as the rules read it and by position
body-read : expression.read (4 ∷ 112 ∷ 0 ∷ 0 ∷ []) ≡ some (node (built_in 112) (node (parameter 0) ⟨⟩ ▹ ⟨⟩))
unfolding row
body-read = refl

body-found : filling 20 (expr_at 2 example 16) ≡ some (node (built_in 112) (node (parameter 0) ⟨⟩ ▹ ⟨⟩))
unfolding expr_at token_at tagged_at arity_of row
body-found = refl

-- nesting 2 is found with nesting 2 left, not with 1; an operator of eight arguments is kept, of nine passed
body_kept : kept_of (expr_at 2 example 16) ≡ Some 20
unfolding expr_at token_at tagged_at arity_of row
body_kept = refl

body-deep : kept_of (expr_at 1 example 16) ≡ None
unfolding expr_at token_at tagged_at arity_of row
body-deep = refl

-- the operator 5 of so many arguments, each a parameter
abbrev many_arguments : ℕ → List ℕ
many_arguments k = 2 ∷ 0 ∷ 5 ∷ k ∷ replicate (2 * k) 0

eight-arguments : kept_of (expr_at 2 (many_arguments 8) 0) ≡ Some 20
unfolding expr_at token_at tagged_at arity_of row
eight-arguments = refl

nine-arguments : kept_of (expr_at 2 (many_arguments 9) 0) ≡ None
unfolding expr_at token_at tagged_at arity_of row
nine-arguments = refl

-- a bound index that is unknown
abbrev unbound : ℕ → Token → ℕ → Bool
unbound k (parameter i) m = false
unbound k (bound_variable j) m = leb k j
unbound k (operator n a) m = false
unbound k (instance_operator i f a) m = false
unbound k (built_in c) m = false
unbound k (numeral v) m = false

abbrev searched : Found → Bool
searched (found t e) = fold (walk (testing unbound)) 0 t
searched nothing = true

-- \E x \in 7: x; the set stands outside the scope
in_body : searched (expr_at 2 (4 ∷ 132 ∷ 5 ∷ 0 ∷ 7 ∷ 1 ∷ 0 ∷ 0 ∷ []) 0) ≡ false
unfolding expr_at token_at tagged_at arity_of binder_of row
in_body = refl

in-set : searched (expr_at 2 (4 ∷ 132 ∷ 1 ∷ 0 ∷ 0 ∷ 5 ∷ 0 ∷ 7 ∷ []) 0) ≡ true
unfolding expr_at token_at tagged_at arity_of binder_of row
in-set = refl
