-- Declarations of one name and one kind: what stands for the first stands for each.
use Rattle.std.specs.Prelude.{◌≡◌, Bool, ◌&&◌, List, ◌≢◌, ℕ, eqb, get_or, length}
use Rattle.forms.specs.Forms.{form_at}
use Rattle.store.specs.Store.{kind_at}
use Rattle.store.specs.declared.Facts.{Facts}

-- the codes e and o have one name and one kind
unfoldable pub same_kind : List ℕ → List Facts → ℕ → ℕ → Bool
same_kind names facts e o = eqb (get_or names e 0) (get_or names o 0) && eqb (kind_at facts e) (kind_at facts o)

-- the table with the form at i at d as well
pub record Again (i d : ℕ) (before after : List ℕ) : Type 0 where
  pub size : length after ≡ length before
  pub here : form_at after d ≡ form_at before i
  pub others : (g : ℕ) → g ≢ d → form_at after g ≡ form_at before g
