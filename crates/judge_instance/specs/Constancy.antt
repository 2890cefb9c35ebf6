-- A module is constant, by its codes.
use Rattle.std.specs.Prelude.{Bool, ◌&&◌, not, List, ℕ, eqb, ltb}
use Rattle.context.specs.Lookup.{is_declared}
use Rattle.context.specs.Entries.{variable_kind}
use Rattle.store.specs.Store.{kind_at}
use Rattle.store.specs.declared.Facts.{Facts}
use Rattle.forms.specs.Forms.{form_at, level_at}
use Rattle.limits.specs.Limits.{max_definitions}
use Rattle.rules.specs.State.{zeros}
use Rattle.theory.specs.Lists.{any}

-- a variable's code
abbrev pub is_variable_code : List Facts → ℕ → Bool
is_variable_code facts o = is_declared facts o && eqb (kind_at facts o) variable_kind

unfoldable pub variable_among : List Facts → List ℕ → Bool
variable_among facts cs = any (is_variable_code facts) cs

-- the level with parameters at 0 of the form of definition g is not 0
abbrev pub uneven_form : List ℕ → ℕ → Bool
uneven_form words g = ltb g max_definitions && not (eqb 0 (level_at (form_at words g) (zeros 0)))

unfoldable pub uneven_among : List ℕ → List ℕ → Bool
uneven_among words gs = any (uneven_form words) gs

-- a module without a variable, all of whose definitions have level 0
unfoldable pub constant_codes : List ℕ → List Facts → List ℕ → List ℕ → Bool
constant_codes words facts cs gs = not (variable_among facts cs) && not (uneven_among words gs)
