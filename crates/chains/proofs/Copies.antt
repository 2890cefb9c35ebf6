-- In the table of the numbers from 0 each definition is itself.
use mathlib.Core.List.{List}
use mathlib.Core.Path.{◌∙◌, ◌≡◌, ap, sym}
use lib.ListN.{get_or, length}
use native.Mathlib.Nat.{zero-add}
use Prim.Native.Nat.{ℕ}
use Rattle.limits.specs.Limits.{max_definitions}
use Rattle.theory.specs.Lists.{numbers_from}
use Rattle.levels.proofs.Numbered.{numbers-at, numbers-length}
use Rattle.chains.specs.Results.{Itselves}

pub itselves : (numbers : List ℕ) → numbers ≡ numbers_from 0 max_definitions → Itselves numbers
itselves numbers e =
    record {
      size = ap length e ∙ numbers-length 0 max_definitions;
      each = λ g h. ap (λ (l : List ℕ). get_or l g 0) e ∙ sym (numbers-at 0 max_definitions g h) ∙ zero-add g;
    }
