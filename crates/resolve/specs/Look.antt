-- What a name means as a number, found in the store. Definitions only.
use Rattle.std.specs.Prelude.{cond, List, ℕ, ◌+◌, leb, ltb}
use Rattle.limits.specs.Limits.{max_declarations, max_definitions}
use Rattle.theory.specs.Lists.{numbers_from}
use Rattle.tokens.specs.declared.Token.{Token}
use Rattle.tokens.specs.declared.Token.TheVariants.{Parameter, Bound, Name, InstanceOperator, BuiltIn, Literal}
use Rattle.context.specs.Lookup.{as_code, brought_in, code_named, code_under, operator_in}
use Rattle.store.specs.Store.{first_at, kind_at}
use Rattle.store.specs.declared.Facts.{Facts}
use Rattle.std.specs.Prelude.{Option as Answer, Some, None}
use Rattle.context.specs.declared.Operator.{Operator}
use Rattle.context.specs.declared.Operator.TheVariants.{Constant, Variable, Defined}
use Rattle.context.specs.declared.Brought.{Brought}
use Rattle.resolve.specs.declared.Look.{Look}

abbrev pub ref_to : ℕ → ℕ → Look
ref_to r k = record { number = r; arity = k }

-- a declaration by its number among the file's declarations, behind the definitions; k is its argument count
unfoldable pub declared_ref : List Facts → ℕ → ℕ → Answer Look
declared_ref facts o k = cond (ltb (first_at facts o) max_declarations) (Some (ref_to (max_definitions + first_at facts o) k)) None

-- a definition by its number
unfoldable pub defined_ref : List Facts → ℕ → Look
defined_ref facts g = ref_to g (kind_at facts g)

unfoldable pub operator_ref : List Facts → Answer Operator → Answer Look
operator_ref facts (Some (Constant o k)) = declared_ref facts o k
operator_ref facts (Some (Variable o)) = declared_ref facts o 0
operator_ref facts (Some (Defined g)) = Some (defined_ref facts g)
operator_ref facts None = None

unfoldable pub code_ref : List Facts → Answer ℕ → Answer Look
code_ref facts (Some g) = Some (defined_ref facts g)
code_ref facts None = None

-- I!F among what I brought; only definitions are brought
unfoldable pub brought_ref : List ℕ → List Facts → ℕ → ℕ → Answer Brought → Answer Look
brought_ref names facts i f (Some b) =
    cond (leb (b.first + b.count) max_definitions) (code_ref facts (as_code (code_under names facts i f (numbers_from b.first b.count)))) None
brought_ref names facts i f None = None

-- a token, in a context given by its codes; only names are looked up
unfoldable pub look_in : List ℕ → List Facts → List ℕ → Token → Answer Look
look_in names facts cs (Parameter i) = None
look_in names facts cs (Bound j) = None
look_in names facts cs (Name n k) = operator_ref facts (operator_in facts (as_code (code_named names n cs)))
look_in names facts cs (InstanceOperator i f k) = brought_ref names facts i f (brought_in facts (as_code (code_named names i cs)))
look_in names facts cs (BuiltIn c) = None
look_in names facts cs (Literal v) = None
