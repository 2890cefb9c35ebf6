-- "Lawful instances stay lawful" (paper 02, L6) on the cards, by their numbers, of a row of fields that no cause refuses.
use mathlib.Core.List.{List, ◌∷◌}
use mathlib.Core.Path.{◌∙◌, ◌≡◌, subst, subst⁻¹}
use lib.ListN.{length, length-append, length-map}
use native.Mathlib.Omega.{arith}
use Prim.Native.Nat.{◌<◌, ◌≤◌, ℕ}
use Rattle.laws.proofs.Accept.{Clears, adds-append, clears-append}
use Rattle.laws.proofs.CardsKept.{brought-card, brought-definition, definition-kept, level-kept}
use Rattle.laws.proofs.Invariant.{Good, good-adds, good_start, source_known}
use Rattle.laws.proofs.LawfulBrought.{Cleared, brought-lawful, cleared-field, substitutes-formed}
use Rattle.laws.proofs.Modules.{Grows, add-grows, adds-grow, grows-join, grows-size}
use Rattle.laws.specs.Lawful.{adds}
use Rattle.laws.specs.LawfulInstances.{HasInstance, StaysLawful, at_instance, brought_level, brought_number, highest_substitute, instanced, level_at_zero, original_number}
use Rattle.rules.specs.Add.{add}
use Rattle.rules.specs.Field.{Field, FieldFits, Substitution, instance}
use Rattle.rules.specs.Instance.{brought_one, is_constant}
use Rattle.rules.specs.State.{State, definition_at, start}
use Rattle.theory.proofs.Lists.{at_all, split-all}
use Rattle.theory.specs.Lists.{All}

module _ {fs : List Field} {n p m : ℕ} {ss : List Substitution} (fit : All FieldFits fs) (clear : Clears start fs) (h : HasInstance fs n p m ss) where
  -- the state before the field and the one after it; all that the fields add is `adds start fs`
  abbrev s₀ : State
  s₀ = at_instance h

  abbrev s₁ : State
  s₁ = add (at_instance h) (instance n p m ss)

  fits : All FieldFits h.before × All FieldFits (instance n p m ss ∷ h.behind)
  fits = split-all FieldFits h.before (instance n p m ss ∷ h.behind) (subst (All FieldFits) h.split fit)

  clears : Clears start h.before × Clears s₀ (instance n p m ss ∷ h.behind)
  clears = clears-append start h.before (instance n p m ss ∷ h.behind) (subst (Clears start) h.split clear)

  good : Good s₀
  good = good-adds h.before start fits.0 clears.0 good_start

  cleared : Cleared s₀ p m ss
  cleared = cleared-field s₀ n p m ss fits.1.0 clears.1.0

  after-grows : Grows s₁ (adds start fs)
  after-grows = subst⁻¹ (λ (l : List Field). Grows s₁ (adds start l)) h.split (subst⁻¹ (Grows s₁) (adds-append start h.before (instance n p m ss ∷ h.behind)) (adds-grow h.behind s₁))

  before-grows : Grows s₀ (adds start fs)
  before-grows = grows-join s₀ s₁ (adds start fs) (add-grows s₀ (instance n p m ss)).0 after-grows

  module _ (i : ℕ) (there : i < length (instanced h).definitions) where
    original-before : original_number h i < length s₀.definitions
    original-before =
        at_all (λ g. g < length s₀.definitions) (instanced h).definitions i 0 (source_known (length s₀.definitions) s₀ m good.ended).1 there

    brought-after : brought_number h i < length s₁.definitions
    brought-after = rw (length-append, length-map) (omega arith)

    -- both numbers are definitions',
    pub original-there : original_number h i < length (adds start fs).definitions
    original-there = let l : length s₀.definitions ≤ length (adds start fs).definitions = grows-size s₀ (adds start fs) before-grows in omega (arith, original-before)

    pub brought-there : brought_number h i < length (adds start fs).definitions
    brought-there = let l : length s₁.definitions ≤ length (adds start fs).definitions = grows-size s₁ (adds start fs) after-grows in omega (arith, brought-after)

    -- the second is the first as the instance brings it,
    pub brought-is : definition_at (adds start fs) (brought_number h i) ≡ brought_one s₀ n p (instanced h) ss (original_number h i)
    brought-is =
        definition-kept s₁ (adds start fs) after-grows.definitions.0 after-grows.definitions.1 (brought_number h i) brought-after
        ∙ brought-definition s₀ good n p m ss (substitutes-formed s₀ good p m ss cleared) i there

    -- and L6's sentences hold of their cards.
    pub stays_lawful : StaysLawful (is_constant s₀ (instanced h)) (level_at_zero (adds start fs) (original_number h i)) (level_at_zero (adds start fs) (brought_number h i))
        (highest_substitute s₀ p (instanced h) ss)
    stays_lawful =
        let own = level-kept s₀ (adds start fs) before-grows.definitions.0 before-grows.definitions.1 (original_number h i) original-before in
        let brought = level-kept s₁ (adds start fs) after-grows.definitions.0 after-grows.definitions.1 (brought_number h i) brought-after
        ∙ brought-card s₀ good n p m ss (substitutes-formed s₀ good p m ss cleared) i there in
        rw (own, brought) (at_all (λ g. StaysLawful (is_constant s₀ (instanced h)) (level_at_zero s₀ g) (brought_level s₀ p (instanced h) ss g) (highest_substitute s₀ p (instanced h) ss))
        (instanced h).definitions i 0 (brought-lawful s₀ good p m ss cleared) there)
