-- What the functions of this crate promise.
use Rattle.std.specs.Prelude.{List, ◌⊎◌, ◌≢◌, ◌≡◌, ℕ, ◌+◌, ◌≤◌, ◌<◌, get_or, length}
use Rattle.limits.specs.Limits.{max_definitions}
use Rattle.theory.specs.Level.{IsLevel}
use Rattle.theory.specs.Lists.{All}
use Rattle.rules.specs.State.{State, card_level, params_of}
use Rattle.texts.specs.Text.{Declarations}
use Rattle.forms.specs.Forms.{form_at, level_at}
use Rattle.store.specs.declared.Store.{Store}
use Rattle.context.specs.declared.Counts.{Counts}
use Rattle.worlds.specs.Rows.{Row}
use Rattle.chains.specs.Ready.{DeclaredForms, FormsBelow, Ready}

-- each definition is itself
pub record Itselves (numbers : List ℕ) : Type 0 where
  pub size : length numbers ≡ max_definitions
  pub each : (g : ℕ) → g < max_definitions → get_or numbers g 0 ≡ g

-- r is the form of definition d
abbrev pub FormOf : State → ℕ → ℕ → Type 0
FormOf s d r = (ρ : List ℕ) → length ρ ≡ params_of s d → All IsLevel ρ → level_at r ρ ≡ card_level s d ρ

-- r gives, whatever stands, the level of definition d, if the table has the forms of those below it and of the declarations
pub record WorldForm (file refs words : List ℕ) (v : Store) (declared : List ℕ) (n d : ℕ) (r : ℕ) : Type 0 where
  pub right : (c : Counts) (s : State) (rs : List Row) (decls : Declarations) (end : ℕ) → Ready file refs v declared n c s rs decls end → d < c.definitions
      → FormsBelow words s d → DeclaredForms words decls → FormOf s d r

-- The form of definition d has been stored in the table.
pub record FormBrought (file refs : List ℕ) (v : Store) (declared : List ℕ) (n d : ℕ) (words words' : List ℕ) : Type 0 where
  pub size : length words' ≡ length words
  pub form : WorldForm file refs words v declared n d (form_at words' d)
  pub others : (g : ℕ) → g ≢ d → form_at words' g ≡ form_at words g

-- The forms of the definitions from `first` on, `count` of them, have been stored in the table.
pub record BroughtForms (file refs : List ℕ) (v : Store) (declared : List ℕ) (n first count : ℕ) (words words' : List ℕ) : Type 0 where
  pub size : length words' ≡ length words
  pub others : (g : ℕ) → (g < first) ⊎ (first + count ≤ g) → form_at words' g ≡ form_at words g
  pub right : (c : Counts) (s : State) (rs : List Row) (decls : Declarations) (end : ℕ) → Ready file refs v declared n c s rs decls end → first + count ≤ c.definitions
      → FormsBelow words s first → DeclaredForms words decls → FormsBelow words' s (first + count)
