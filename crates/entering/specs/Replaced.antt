-- The declarations' part of the table of forms, replaced.
use Rattle.std.specs.Prelude.{◌≡◌, List, ℕ, ◌+◌, ◌<◌, length}
use Rattle.limits.specs.Limits.{max_declarations, max_definitions}
use Rattle.forms.specs.Forms.{form_at}

pub record Replaced (next before after : List ℕ) : Type 0 where
  pub size : length after ≡ length before
  pub definitions : (g : ℕ) → g < max_definitions → form_at after g ≡ form_at before g
  pub declarations : (d : ℕ) → d < max_declarations → form_at after (max_definitions + d) ≡ form_at next d
