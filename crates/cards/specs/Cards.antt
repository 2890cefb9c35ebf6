-- The cards by the store and the forms, definition after definition.
use Rattle.std.specs.Prelude.{List, [], ◌++◌, ℕ, zero, suc}
use Rattle.theory.specs.Card.{card_of}
use Rattle.forms.specs.Forms.{form_at, level_at}
use Rattle.context.specs.Lookup.{arity_at}
use Rattle.store.specs.declared.Facts.{Facts}

-- the card of definition g, from its form
abbrev pub card_at : List Facts → List ℕ → ℕ → List ℕ
card_at facts words g = card_of (arity_at facts g) (level_at (form_at words g))

-- of the first n definitions
abbrev pub cards_of : List Facts → List ℕ → ℕ → List ℕ
cards_of facts words zero = []
cards_of facts words (suc n) = cards_of facts words n ++ card_at facts words n
