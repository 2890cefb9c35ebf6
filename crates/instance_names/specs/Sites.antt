-- The substitutions of an INSTANCE field by position, and the causes that are tests of each of them or of each code of the module instanced.
use Rattle.std.specs.Prelude.{Bool, true, false, cond, not, ◌&&◌, ◌||◌, List, [], ◌∷◌, ℕ, zero, suc, ◌+◌, eqb, ltb, get_or, length, is_none}
use Rattle.limits.specs.Limits.{max_arity, max_definitions}
use Rattle.theory.specs.Lists.{any, is_some}
use Rattle.tokens.specs.Limit.{limit_at}
use Rattle.tokens.specs.Token.{number_at}
use Rattle.tokens.specs.declared.Token.TheVariants.{Name}
use Rattle.fields.specs.Substitution.{next_substitution}
use Rattle.context.specs.Lookup.{as_code, code_named, declared_named, definition_among, is_declared, operator_in}
use Rattle.context.specs.Entries.{context_codes, order_of, variable_kind}
use Rattle.store.specs.Store.{kind_at, order_slot}
use Rattle.store.specs.declared.Facts.{Facts}
use Rattle.std.specs.Prelude.{Option as Answer, Some, None, is_none, is_some as found}
use Rattle.context.specs.declared.Operator.{Operator}
use Rattle.context.specs.declared.Operator.TheVariants.{Constant, Variable, Defined}
use Rattle.resolve.specs.Look.{look_in}
use Rattle.resolve.specs.Walk.{wrong_count}
use Rattle.entering.specs.Written.{written_at}
use Rattle.instance_names.specs.declared.Site.{Site}

-- where the substitution after the one at a position begins
unfoldable pub next_start : List ℕ → ℕ → ℕ
next_start s at = next_substitution s at

-- where so many substitutions begin, from a position on, as far as the file goes
unfoldable pub starts : ℕ → List ℕ → ℕ → List ℕ
starts zero s at = []
starts (suc k) s at =
    let r = starts k s (next_start s at) in
    cond (ltb (length s) at) [] (at ∷ r)

-- the module instanced is one that is ended
abbrev pub is_ended : Site → Bool
is_ended x = ltb x.source x.modules

-- the argument count that a declaration says
unfoldable pub answered_arity : Answer Operator → ℕ
answered_arity (Some (Constant o k)) = k
answered_arity (Some (Variable o)) = 0
answered_arity (Some (Defined g)) = 0
answered_arity None = 0

unfoldable pub answered_some : Answer Operator → Bool
answered_some (Some (Constant o k)) = true
answered_some (Some (Variable o)) = true
answered_some (Some (Defined g)) = false
answered_some None = false

-- "For a name not declared there, or a module not ended earlier, k is 0."
unfoldable pub arity_there : List ℕ → List Facts → List ℕ → List ℕ → Site → ℕ → ℕ
arity_there names facts contexts heads x n =
    cond (is_ended x) (answered_arity (operator_in facts (as_code (declared_named names facts n (context_codes contexts heads x.source))))) 0

abbrev pub is_written : Answer ℕ → Bool
is_written w = found w

-- 5, of one substitution, of all; of one definition, of all of the module instanced
unfoldable pub substitution_over : List ℕ → List ℕ → List Facts → List ℕ → List ℕ → Site → ℕ → Bool
substitution_over file names facts contexts heads x at =
    ltb max_arity (x.params + arity_there names facts contexts heads x (number_at file at)) || is_none (limit_at file (at + 4))

unfoldable pub substitutions_over : List ℕ → List ℕ → List Facts → List ℕ → List ℕ → Site → ℕ → ℕ → Bool
substitutions_over file names facts contexts heads x k at = any (substitution_over file names facts contexts heads x) (starts k file at)

unfoldable pub definition_over : List Facts → ℕ → ℕ → Bool
definition_over facts p g = ltb max_arity (p + kind_at facts g)

unfoldable pub definitions_over : List Facts → ℕ → List ℕ → Bool
definitions_over facts p gs = any (definition_over facts p) gs

unfoldable pub module_over : List Facts → List ℕ → List ℕ → Site → ℕ → Bool
module_over facts orders heads x definitions =
    cond (is_ended x)
    (ltb max_definitions (definitions + get_or heads (order_slot x.source) 0) || definitions_over facts x.params (order_of orders heads x.source)) false

unfoldable pub over_limits : List ℕ → List ℕ → List Facts → List ℕ → List ℕ → List ℕ → Site → ℕ → Bool
over_limits file names facts contexts orders heads x definitions =
    ltb max_arity x.params || (module_over facts orders heads x definitions || substitutions_over file names facts contexts heads x x.count x.at)

-- 8
unfoldable pub clashes_at : List ℕ → List ℕ → List ℕ → Site → ℕ → Bool
clashes_at names contexts heads x n =
    cond (eqb n 0) (definition_among names (context_codes contexts heads x.modules) (context_codes contexts heads x.source))
    (is_some (code_named names n (context_codes contexts heads x.modules)))

-- 9 and 10 of a declared name without a substitution: what it means where the field stands
unfoldable pub stands : List ℕ → List ℕ → List Facts → Site → ℕ → Bool
stands file names facts x o = is_declared facts o && not (is_written (written_at x.count file x.at (get_or names o 0)))

unfoldable pub implied_unknown : List ℕ → List ℕ → List Facts → List ℕ → List ℕ → Site → ℕ → Bool
implied_unknown file names facts contexts heads x o =
    stands file names facts x o && is_none (look_in names facts (context_codes contexts heads x.modules) (Name (get_or names o 0) 0))

-- the argument count of a declaration of a kind
unfoldable pub kind_count : ℕ → ℕ
kind_count k = cond (eqb k variable_kind) 0 k

unfoldable pub implied_miscounted : List ℕ → List ℕ → List Facts → List ℕ → List ℕ → Site → ℕ → Bool
implied_miscounted file names facts contexts heads x o =
    stands file names facts x o
    && wrong_count (kind_count (kind_at facts o)) (look_in names facts (context_codes contexts heads x.modules) (Name (get_or names o 0) 0))

unfoldable pub unknown_among : List ℕ → List ℕ → List Facts → List ℕ → List ℕ → Site → List ℕ → Bool
unknown_among file names facts contexts heads x cs = any (implied_unknown file names facts contexts heads x) cs

unfoldable pub miscounted_among : List ℕ → List ℕ → List Facts → List ℕ → List ℕ → Site → List ℕ → Bool
miscounted_among file names facts contexts heads x cs = any (implied_miscounted file names facts contexts heads x) cs

-- 11: a substituted name that the module instanced does not declare; one substituted twice
unfoldable pub undeclared_at : List ℕ → List ℕ → List Facts → List ℕ → List ℕ → Site → ℕ → Bool
undeclared_at file names facts contexts heads x at =
    not (answered_some (operator_in facts (as_code (declared_named names facts (number_at file at) (context_codes contexts heads x.source)))))

unfoldable pub undeclared_in : List ℕ → List ℕ → List Facts → List ℕ → List ℕ → Site → ℕ → ℕ → Bool
undeclared_in file names facts contexts heads x k at = any (undeclared_at file names facts contexts heads x) (starts k file at)

unfoldable pub repeated_from : List ℕ → ℕ → ℕ → Bool
repeated_from s zero at = false
repeated_from s (suc k) at =
    let r = repeated_from s k (next_start s at) in
    cond (ltb (length s) at) false (is_written (written_at k s (next_start s at) (number_at s at)) || r)
