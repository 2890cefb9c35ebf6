-- What the lookups answer, as functions of lists of codes.
use Rattle.std.specs.Prelude.{◌≡◌, ◌<◌, Bool, cond, false, ◌&&◌, ◌||◌, List, [], ◌∷◌, ℕ, eqb, leb, ltb, get_or}
use Rattle.std.proofs.Math.Option.{Option, none, some}
use Rattle.limits.specs.Limits.{max_arity, max_definitions}
use Rattle.theory.specs.Lists.{any, find, is_some}
use Rattle.context.specs.Entries.{instance_kind, variable_kind, word_count}
use Rattle.store.specs.Store.{count_at, first_at, kind_at, via_at}
use Rattle.store.specs.declared.Facts.{Facts}
use Rattle.std.specs.Prelude.{Option as Answer, Some, None}
use Rattle.context.specs.declared.Operator.{Operator}
use Rattle.context.specs.declared.Operator.TheVariants.{Constant, Variable, Defined}
use Rattle.context.specs.declared.Brought.{Brought}

-- the first code whose name is n
unfoldable pub code_named : List ℕ → ℕ → List ℕ → Option ℕ
code_named names n cs = find (λ o. eqb n (get_or names o 0)) cs

-- I!F: definition g stands under instance i and has the name f; the first of some that does
abbrev pub stands_under : List ℕ → List Facts → ℕ → ℕ → ℕ → Bool
stands_under names facts i f g = eqb i (via_at facts g) && eqb f (get_or names g 0)

unfoldable pub code_under : List ℕ → List Facts → ℕ → ℕ → List ℕ → Option ℕ
code_under names facts i f gs = find (stands_under names facts i f) gs

unfoldable pub as_code : Option ℕ → Answer ℕ
as_code none = None
as_code (some o) = Some o

-- what a test of codes answers, as a function
abbrev pub Tests : (ℕ → Bool → Type 0) → (ℕ → Bool) → Type 0
Tests P t = (o : ℕ) (r : Bool) → o < word_count → P o r → r ≡ t o

-- the parameter count of definition g; none has more than the limit
abbrev pub arity_at : List Facts → ℕ → ℕ
arity_at facts g = cond (ltb max_arity (kind_at facts g)) 0 (kind_at facts g)

-- what a code is as an operator,
unfoldable pub operator_at : List Facts → ℕ → Answer Operator
operator_at facts o =
    cond (ltb o max_definitions) (Some (Defined o))
    (cond (ltb (kind_at facts o) variable_kind) (Some (Constant o (kind_at facts o)))
    (cond (eqb (kind_at facts o) variable_kind) (Some (Variable o)) None))

unfoldable pub operator_in : List Facts → Answer ℕ → Answer Operator
operator_in facts (Some o) = operator_at facts o
operator_in facts None = None

-- and as an instance
abbrev pub bringing : ℕ → ℕ → Brought
bringing first count = record { first = first; count = count }

unfoldable pub brought_at : List Facts → ℕ → Answer Brought
brought_at facts o =
    cond (ltb o max_definitions) None
    (cond (ltb (kind_at facts o) instance_kind) None (Some (bringing (first_at facts o) (count_at facts o))))

unfoldable pub brought_in : List Facts → Answer ℕ → Answer Brought
brought_in facts (Some o) = brought_at facts o
brought_in facts None = None

-- a code of a CONSTANT or VARIABLE field; of an INSTANCE field
abbrev pub is_declared : List Facts → ℕ → Bool
is_declared facts o = leb max_definitions o && leb (kind_at facts o) variable_kind

abbrev pub is_instance : List Facts → ℕ → Bool
is_instance facts o = leb max_definitions o && leb instance_kind (kind_at facts o)

-- a declaration of the name n, and the first
abbrev pub declares_name : List ℕ → List Facts → ℕ → ℕ → Bool
declares_name names facts n o = is_declared facts o && eqb n (get_or names o 0)

unfoldable pub declared_named : List ℕ → List Facts → ℕ → List ℕ → Option ℕ
declared_named names facts n cs = find (declares_name names facts n) cs

-- cause 16: some code is an instance's
unfoldable pub instance_among : List Facts → List ℕ → Bool
instance_among facts cs = any (is_instance facts) cs

-- cause 8 at an unnamed instance: a definition whose name is a name in ds, and whether there is one in cs
abbrev pub defines_name_in : List ℕ → List ℕ → ℕ → Bool
defines_name_in names ds o = ltb o max_definitions && is_some (code_named names (get_or names o 0) ds)

unfoldable pub definition_among : List ℕ → List ℕ → List ℕ → Bool
definition_among names ds cs = any (defines_name_in names ds) cs

-- cause 8 at EXTENDS: two codes have one name
unfoldable pub repeated_in : List ℕ → List ℕ → Bool
repeated_in names [] = false
repeated_in names (o ∷ cs) = is_some (code_named names (get_or names o 0) cs) || repeated_in names cs
