-- A declaration stands for itself: what the table of forms holds of it where no instance has brought the text.
use Rattle.std.specs.Prelude.{◌≡◌, cond, List, ◌≢◌, ℕ, leb, length}
use Rattle.limits.specs.Limits.{max_arity}
use Rattle.theory.specs.Level.{highest}
use Rattle.theory.specs.Lists.{param_levels}
use Rattle.forms.specs.Forms.{Gives, form_at}

-- a kind is a constant's argument count, or that of a variable, which is above them
unfoldable pub itself_level : ℕ → List ℕ → ℕ
itself_level kind v = cond (leb kind max_arity) (highest (param_levels 0 kind v)) 1

-- one form has changed: it gives these levels
pub record Put (level : List ℕ → ℕ) (before after : List ℕ) (g : ℕ) : Type 0 where
  pub size : length after ≡ length before
  pub here : Gives (form_at after g) level
  pub others : (h : ℕ) → h ≢ g → form_at after h ≡ form_at before h
