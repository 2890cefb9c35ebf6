-- Declarations of the same name and kind, as the store tells them.
use Rattle.std.specs.Prelude.{Bool, ◌&&◌, true, List, ◌≡◌, ℕ, ◌≤◌, ◌<◌, eqb, get_or, length}
use Rattle.limits.specs.Limits.{max_declarations}
use Rattle.store.specs.Store.{kind_at}
use Rattle.store.specs.declared.Facts.{Facts}

unfoldable pub are_alike : List ℕ → List Facts → List ℕ → ℕ → ℕ → Bool
are_alike names facts declared e f =
    eqb (get_or names (get_or declared e 0) 0) (get_or names (get_or declared f 0) 0) && eqb (kind_at facts (get_or declared e 0)) (kind_at facts (get_or declared f 0))

-- f is e, or one before it that is like it
pub record FirstAlike (names : List ℕ) (facts : List Facts) (declared : List ℕ) (e f : ℕ) : Type 0 where
  pub before : f ≤ e
  pub alike : are_alike names facts declared e f ≡ true

-- such a one of each declaration
pub record FirstsNoted (names : List ℕ) (facts : List Facts) (declared firsts : List ℕ) : Type 0 where
  pub long : length firsts ≡ max_declarations
  pub each : (e : ℕ) → e < max_declarations → FirstAlike names facts declared e (get_or firsts e 0)
