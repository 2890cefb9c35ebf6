-- What the names of a text mean in a world, by tables: `numbers` holds for each definition of the text's module the definition that it is in the
-- world; `words` is a table of forms: that of each definition, then that of what stands for each declaration.
use Rattle.std.specs.Prelude.{cond, List, ℕ, ◌+◌, ltb, get_or}
use Rattle.limits.specs.Limits.{max_definitions, max_declarations}
use Rattle.tokens.specs.Fold.{Algebra}
use Rattle.texts.specs.Text.{Scene, levels}
use Rattle.forms.specs.Forms.{form_at, level_at}

-- how many forms the table has
abbrev pub table_words : ℕ
table_words = max_definitions + max_declarations

-- the place in the table of what a name was resolved to
abbrev pub place_of : List ℕ → ℕ → ℕ
place_of numbers r = cond (ltb r max_definitions) (get_or numbers r 0) r

abbrev pub scene_of : List ℕ → List ℕ → Scene
scene_of numbers words =
    record { definitions = λ r us. level_at (form_at words (get_or numbers r 0)) us; declarations = λ d us. level_at (form_at words (max_definitions + d)) us }

-- What a text's names are looked up in: `refs` says what each name of the file was resolved to; `outer` parameters are those of the instances
-- around the text, which come first among the form's.
pub record Names : Type 0 where
  pub refs : List ℕ
  pub numbers : List ℕ
  pub words : List ℕ
  pub outer : ℕ

abbrev pub names_of : List ℕ → List ℕ → List ℕ → ℕ → Names
names_of refs numbers words P = record { refs = refs; numbers = numbers; words = words; outer = P }

-- the form of what the name at a position was resolved to
abbrev pub form_named : Names → ℕ → ℕ
form_named N at = form_at N.words (place_of N.numbers (get_or N.refs at 0))

-- the level of a text with the parameters at levels v
abbrev pub levels_at : Names → List ℕ → Algebra ℕ ℕ (List ℕ)
levels_at N v = levels N.refs (scene_of N.numbers N.words) N.outer v
