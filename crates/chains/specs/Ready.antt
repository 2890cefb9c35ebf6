-- What must stand for the form of a definition to be worked out along its chain of instances.
use Rattle.std.specs.Prelude.{List, [], ◌≡◌, ℕ, ◌+◌, ◌≤◌, ◌<◌, get_or, length}
use Rattle.limits.specs.Limits.{max_arity, max_definitions, max_modules}
use Rattle.theory.specs.Level.{IsLevel}
use Rattle.theory.specs.Lists.{All}
use Rattle.theory.specs.Term.{declared_level, kind_arity}
use Rattle.rules.specs.State.{State, card_level, params_of}
use Rattle.laws.proofs.Sound.{SoundFrom}
use Rattle.texts.specs.Text.{Declarations, no_declaration}
use Rattle.forms.specs.Forms.{form_at, level_at}
use Rattle.store.specs.declared.Store.{Store}
use Rattle.context.specs.declared.Counts.{Counts}
use Rattle.worlds.specs.Rows.{Row, text_of, world_of}
use Rattle.worlds.specs.World.{AllDeclared, AnyName}
use Rattle.worlds.proofs.Invariant.{Worlds}
use Rattle.standing.specs.Chained.{Chained}
use Rattle.standing.specs.Standing.{DeclaredCodes}

-- The store shows the chains of the state s, whose definitions have the worlds rs.
pub record Ready (file refs : List ℕ) (v : Store) (declared : List ℕ) (n : ℕ) (c : Counts) (s : State) (rs : List Row) (decls : Declarations) (end : ℕ) : Type 0 where
  pub counted : c.definitions ≡ length s.definitions
  pub few : c.definitions ≤ max_definitions
  pub modules : c.modules ≤ max_modules
  pub worlds : Worlds s rs
  pub sound : SoundFrom [] s.definitions
  pub named : (D : ℕ) → D < length s.definitions → AllDeclared AnyName (world_of rs D) (text_of s rs D)
  pub chained : Chained v c file refs decls s rs end
  pub codes : DeclaredCodes v decls declared
  pub numbered : length decls ≤ n
  pub params : (g : ℕ) → g < length s.definitions → params_of s g ≤ max_arity

-- the table holds the form of every definition below d,
abbrev pub FormsBelow : List ℕ → State → ℕ → Type 0
FormsBelow words s d = (g : ℕ) (us : List ℕ) → g < d → length us ≡ params_of s g → All IsLevel us → level_at (form_at words g) us ≡ card_level s g us

-- and of every declaration
abbrev pub DeclaredForms : List ℕ → Declarations → Type 0
DeclaredForms words decls =
    (e : ℕ) (us : List ℕ) → e < length decls → length us ≡ kind_arity (get_or decls e no_declaration).0 → All IsLevel us
    → level_at (form_at words (max_definitions + e)) us ≡ declared_level (get_or decls e no_declaration).0 (get_or decls e no_declaration).1 us
