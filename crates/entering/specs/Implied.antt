-- A declared name that stands for the operator of that name.
use Rattle.std.specs.Prelude.{cond, List, ◌++◌, ℕ, ◌+◌, leb, ltb}
use Rattle.limits.specs.Limits.{max_arity, max_declarations, max_definitions}
use Rattle.theory.specs.Lists.{param_levels}
use Rattle.texts.specs.Text.{named}
use Rattle.levels.specs.Tables.{scene_of}
use Rattle.context.specs.Entries.{context_codes}
use Rattle.store.specs.Store.{first_at}
use Rattle.store.specs.declared.Facts.{Facts}
use Rattle.context.specs.Lookup.{as_code, code_named, is_declared, operator_in}
use Rattle.std.specs.Prelude.{Option as Answer, Some, None}
use Rattle.context.specs.declared.Operator.{Operator}
use Rattle.context.specs.declared.Operator.TheVariants.{Constant, Variable, Defined}

-- a declaration's number; of another code the first number that is none, for which the table of forms has level 0
unfoldable pub number_of : List Facts → ℕ → ℕ
number_of facts o = cond (is_declared facts o) (cond (ltb (first_at facts o) max_declarations) (first_at facts o) max_declarations) max_declarations

-- a constant's kind is its argument count, a variable takes none
unfoldable pub arguments_of : ℕ → ℕ
arguments_of kind = cond (leb kind max_arity) kind 0

unfoldable pub ref_of : List Facts → Answer Operator → ℕ
ref_of facts (Some (Constant o k)) = max_definitions + number_of facts o
ref_of facts (Some (Variable o)) = max_definitions + number_of facts o
ref_of facts (Some (Defined g)) = g
ref_of facts None = max_definitions + max_declarations

unfoldable pub implied_ref : List ℕ → List Facts → List ℕ → List ℕ → ℕ → ℕ → ℕ
implied_ref names facts contexts heads owner x = ref_of facts (operator_in facts (as_code (code_named names x (context_codes contexts heads owner))))

-- What r stands for, at the first P parameters and then at the k that come after p more.
unfoldable pub implied_level : List ℕ → List ℕ → ℕ → ℕ → ℕ → ℕ → List ℕ → ℕ
implied_level numbers words r P p k v = named (scene_of numbers words) r (param_levels 0 P v ++ param_levels (P + p) k v)
