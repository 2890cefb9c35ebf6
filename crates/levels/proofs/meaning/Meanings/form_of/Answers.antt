use mathlib.Core.Path.{◌≡◌, ap, ◌∙◌}
use mathlib.Core.List.{List}
use Prim.Native.Nat.{ℕ}
use lib.ListN.{get_or}
use borrow.Author.Rules.{rules}
use Rattle.levels.specs.Tables.{place_of}
use Rattle.levels.proofs.meaning.Meanings.form_of.Goals as goal

found : (refs numbers words : List ℕ) (at r g f : ℕ) → r ≡ get_or refs at 0 → g ≡ place_of numbers r → f ≡ get_or words g 0
    → f ≡ get_or words (place_of numbers (get_or refs at 0)) 0
found refs numbers words at r g f er eg ef = ef ∙ ap (λ (i : ℕ). get_or words i 0) (eg ∙ ap (place_of numbers) er)

pub returns : goal.returns
returns c = search (rules, found)
