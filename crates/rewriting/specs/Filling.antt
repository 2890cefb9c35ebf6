-- What the functions that fill a template at a call give.
use Rattle.std.specs.Prelude.{List, map, Option, Some, option_map, ◌≡◌, ℕ, suc, ◌≤◌, get_or, length}
use Rattle.theory.specs.Lists.{numbers_from}
use Rattle.symbols.specs.Symbol.{Symbol, fill}
use Rattle.strings.specs.Laid.{Laid, bound_count}
use Rattle.strings.specs.Read.{string_at}
use Rattle.rewriting.specs.Ends.{last_from}
use Rattle.rewriting.specs.declared.Part.{Part}
use Rattle.symbols.specs.Spell.{max_params}

-- the strings of the arguments of a call whose first argument stands at a position
unfoldable pub arguments_of : List ℕ → List ℕ → ℕ → ℕ → List (List Symbol)
arguments_of a shapes h at = map (λ i. string_at a (last_from a shapes i h at) (last_from a shapes (suc i) h at)) (numbers_from 0 max_params)

-- where they begin and end, a bit of h for each
pub record Bounds (a shapes : List ℕ) (h at : ℕ) (bounds : List ℕ) : Type 0 where
  pub long : length bounds ≡ bound_count
  pub each : (i : ℕ) → i ≤ max_params → get_or bounds i 0 ≡ last_from a shapes i h at

abbrev pub filled_of : Option Part → Option ℕ
filled_of r = option_map (λ (s : Part). s.len) r

pub record FilledCall (a : List ℕ) (at h : ℕ) (template : List ℕ) (tlen : ℕ) (shapes before after : List ℕ) (r : Option Part) : Type 0 where
  pub laid : Laid (fill (arguments_of a shapes h at) 0 (string_at template 0 tlen)) 0 before after (filled_of r)
  pub last : (s : Part) → r ≡ Some s → s.end ≡ last_from a shapes max_params h at
