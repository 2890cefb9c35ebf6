-- The cards by the store and the forms are those of the state that they show.
use borrow.Author.Tests.{le-ltb}
use mathlib.Core.Bool.{Bool, cond}
use mathlib.Core.List.{List, [], ◌++◌, ◌∷◌, append_assoc, append-nil}
use mathlib.Core.Path.{◌∙◌, ◌≡◌, ap, subst, sym}
use Prim.Native.Nat.{ℕ, suc, ◌+◌, ◌≤◌, ◌<◌}
use native.Mathlib.Nat.{zero-add}
use native.Mathlib.Omega.{arith}
use lib.ListN.{get_or, length}
use Rattle.limits.specs.Limits.{max_arity, max_definitions}
use Rattle.theory.proofs.Cards.{card-same}
use Rattle.theory.proofs.Lists.{at_all}
use Rattle.theory.specs.Card.{card_of}
use Rattle.rules.specs.Run.{card, cards_from}
use Rattle.rules.specs.State.{Added, State, card_level, no_definition, params_of}
use Rattle.laws.proofs.Within.{Within}
use Rattle.texts.specs.Text.{Declarations}
use Rattle.forms.specs.Forms.{form_at, level_at}
use Rattle.context.specs.Holds.{Holds}
use Rattle.context.specs.Lookup.{arity_at}
use Rattle.store.specs.Store.{kind_at}
use Rattle.store.specs.declared.Store.{Store}
use Rattle.store.specs.declared.Facts.{Facts}
use Rattle.context.specs.declared.Counts.{Counts}
use Rattle.levels.proofs.Numbered.{numbers-at}
use Rattle.levels.specs.Tables.{scene_of}
use Rattle.text_levels.proofs.OwnWorld.{Shows}
use Rattle.standing.specs.Standing.{itselves}
use Rattle.cards.specs.Cards.{card_at, cards_of}

module _ (facts : List Facts) (words : List ℕ) (s : State) where
  cards-split : (k : ℕ) (ds : List Added) → ((i : ℕ) → i < k + length ds → card_at facts words i ≡ card s i)
      → cards_of facts words (k + length ds) ≡ cards_of facts words k ++ cards_from s k ds
  cards-split k [] h = ap (cards_of facts words) (let z : k + 0 ≡ k = omega arith in z) ∙ sym (append-nil (cards_of facts words k))
  cards-split k (d ∷ ds) h =
      let z : k + suc (length ds) ≡ suc k + length ds = omega arith in
      ap (cards_of facts words) z
      ∙ cards-split (suc k) ds (λ i l. h i (omega arith))
      ∙ append_assoc (cards_of facts words k) (card_at facts words k) (cards_from s (suc k) ds)
      ∙ ap (λ (x : List ℕ). cards_of facts words k ++ (x ++ cards_from s (suc k) ds)) (h k (omega arith))

  pub cards-same : ((i : ℕ) → i < length s.definitions → card_at facts words i ≡ card s i)
      → cards_of facts words (length s.definitions) ≡ cards_from s 0 s.definitions
  cards-same h =
      ap (cards_of facts words) (sym (zero-add (length s.definitions))) ∙ cards-split 0 s.definitions (λ i l. h i (omega arith))

module _ (v : Store) (c : Counts) (s : State) (words : List ℕ) (decls : Declarations) (shown : Holds v c s) (small : Within s) (forms : Shows (scene_of itselves words) decls s) where
  card-right : (g : ℕ) → g < length s.definitions → card_at v.facts words g ≡ card s g
  card-right g l =
      let k : kind_at v.facts g ≡ params_of s g = ap (λ (d : Added). d.params) (shown.described g (subst (λ (n : ℕ). g < n) (sym shown.definitions) l)) in
      let few : params_of s g ≤ max_arity = at_all (λ d. d.params ≤ max_arity) s.definitions g no_definition small.params l in
      let same : arity_at v.facts g ≡ params_of s g = ap (λ (b : Bool). cond b 0 (kind_at v.facts g)) (le-ltb max_arity (kind_at v.facts g) (omega arith)) ∙ k in
      let at : g ≡ get_or itselves g 0 = sym (zero-add g) ∙ numbers-at 0 max_definitions g (omega (arith, small.definitions)) in
      ap (λ (n : ℕ). card_of n (level_at (form_at words g))) same
      ∙ card-same (params_of s g) (level_at (form_at words g)) (card_level s g)
      (λ us n a. ap (λ (j : ℕ). level_at (form_at words j) us) at ∙ forms.definitions g us l n a)

  -- in the order of the definitions
  pub cards-shown : cards_of v.facts words c.definitions ≡ cards_from s 0 s.definitions
  cards-shown = ap (cards_of v.facts words) shown.definitions ∙ cards-same v.facts words s card-right
