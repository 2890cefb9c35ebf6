-- The card of a new own definition is the level of its body by the cards before it; so its form shows it.
use borrow.Author.Tests.{ltb-false, ltb-true}
use mathlib.Core.Bool.{Bool, false, true}
use mathlib.Core.List.{List, [], ◌++◌, ◌∷◌, append-nil}
use mathlib.Core.Path.{◌∙◌, ◌≡◌, ap, refl, subst, sym}
use Prim.Native.Nat.{ℕ, ◌+◌, ◌≤◌, ◌<◌}
use native.Mathlib.Nat.{zero-add}
use native.Mathlib.Omega.{arith}
use lib.Dec.{ltb}
use lib.ListN.{get_or, length, length-append}
use Rattle.limits.specs.Limits.{max_definitions}
use Rattle.theory.specs.Expand.{own}
use Rattle.theory.specs.Lists.{All}
use Rattle.theory.specs.Term.{Term}
use Rattle.theory.specs.Level.{IsLevel}
use Rattle.laws.proofs.CardsKept.{card-own}
use Rattle.rules.specs.State.{Added, State, card_level, level_of, params_of}
use Rattle.forms.specs.Forms.{form_at, level_at, stored}
use Rattle.forms.proofs.Tables.{load-other, stored-length}
use Rattle.levels.proofs.Numbered.{numbers-at}
use Rattle.levels.specs.Tables.{scene_of, table_words}
use Rattle.texts.specs.Text.{Declarations}
use Rattle.text_levels.proofs.OwnWorld.{Shows}
use Rattle.standing.specs.Standing.{itselves}
use Rattle.standing.proofs.Forms.{declaration-form, definition-form}

-- a state with one own definition more
module _ (s s' : State) (d : Added) (n : ℕ) (t : Term) (added : s'.definitions ≡ s.definitions ++ (d ∷ [])) (is : d.meaning ≡ own n t) (few : length s.definitions < max_definitions) where
  -- the table with its form at its number
  module _ (words words' : List ℕ) (form : ℕ) (size : length words ≡ table_words) (kept : words' ≡ stored words (length s.definitions) form)
      (there : form_at words' (length s.definitions) ≡ form) where
    pub words-length : length words' ≡ table_words
    words-length = ap length kept ∙ stored-length words (length s.definitions) form ∙ size

    other-form : (g : ℕ) → (g ≡ length s.definitions → ⊥) → form_at words' g ≡ form_at words g
    other-form g other = ap (λ (w : List ℕ). form_at w g) kept ∙ load-other words (length s.definitions) g form other

    -- shows the state after it
    pub shows-new : (decls : Declarations) → Shows (scene_of itselves words) decls s
        → ((us : List ℕ) → length us ≡ params_of s' (length s.definitions) → All IsLevel us → level_at form us ≡ level_of s us t)
        → Shows (scene_of itselves words') (decls ++ []) s'
    shows-new decls shows gives = record {
      definitions = λ g us l e a. at-definition g us l e a (ltb g (length s.definitions)) refl;
      declarations = λ i us l e a.
          declaration-form s s' (d ∷ []) added words words' decls shows [] (λ j k. other-form (max_definitions + j) (λ (z : max_definitions + j ≡ length s.definitions). omega arith)) i us
          (subst (λ (y : Declarations). i < length y) (append-nil decls) l) e a;
    }
      where
        at-definition : (g : ℕ) (us : List ℕ) → g < length s'.definitions → length us ≡ params_of s' g → All IsLevel us → (b : Bool) → ltb g (length s.definitions) ≡ b
            → (scene_of itselves words').definitions g us ≡ card_level s' g us
        at-definition g us l e a true k =
            let h : g < length s.definitions = ltb-true g (length s.definitions) k in
            definition-form s s' (d ∷ []) added words words' decls shows (omega arith) (λ j m. other-form j (λ (z : j ≡ length s.definitions). omega arith)) g us h e a
        at-definition g us l e a false k =
            let h : length s.definitions ≤ g = ltb-false g (length s.definitions) k in
            let m : length s'.definitions ≡ length s.definitions + 1 = ap length added ∙ length-append s.definitions (d ∷ []) in
            let i : length s.definitions ≡ g = omega arith in
            let same : get_or itselves g 0 ≡ g = sym (numbers-at 0 max_definitions g (omega arith)) ∙ zero-add g in
            ap (λ (h : ℕ). level_at (form_at words' h) us) (same ∙ sym i) ∙ ap (λ (f : ℕ). level_at f us) there
            ∙ gives us (e ∙ ap (params_of s') (sym i)) a ∙ sym (card-own s s' d [] n t added is g i us)
