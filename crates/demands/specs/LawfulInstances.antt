-- LAWFUL INSTANCES STAY LAWFUL, paper 02, L6, as one record; theorem `lawful-instances` (proofs/LawfulInstances).
--
-- "Show it: with parameters at 0, every brought definition of an instance that clears 14 and 21 has a level no higher than in its own module, or, if the module is
-- constant, no higher than the highest substitute. Outside constant modules a 3 never becomes a 2. Hence cause 15 cannot arise any more; take it and its check out,
-- and leave the number unused."
use Rattle.std.specs.Prelude.{List, [], ◌∷◌, ◌≡◌, length, ◌<◌, ℕ}
use Rattle.demands.specs.Archive.{alike_tells, body_tells, check_leaves, check_tells, expand_tells, level_tells, state_of}
use Rattle.laws.specs.Cards.{card_in}
use Rattle.laws.specs.Cause15.{checked_with15}
use Rattle.laws.specs.Lawful.{EachObeys, Free, Obeys, adds}
use Rattle.laws.specs.LawfulInstances.{HasInstance, StaysLawful, at_instance, brought_level, brought_number, highest_substitute, instanced, level_at_zero, original_number}
use Rattle.rules.specs.Field.{Field, FieldFits, Substitution, instance}
use Rattle.rules.specs.Instance.{brought_one, is_constant, source}
use Rattle.rules.specs.Run.{checked, refusal, result}
use Rattle.rules.specs.State.{State, definition_at, params_of, start, zeros}
use Rattle.theory.specs.Level.{incorrect}
use Rattle.theory.specs.Lists.{All}

-- "with parameters at 0": the level on the card of definition g in the card memory
abbrev pub card_at_zero : (file left : List ℕ) → ℕ → ℕ
card_at_zero file left g = card_in left g (zeros (params_of (state_of file) g))

-- OF THE CARDS that a check of an accepted file leaves, k of them
pub record CardsStayLawful (file left : List ℕ) (k : ℕ) : Type 0 where
  -- Whatever INSTANCE field the file has, definition `original_number h i` of its module is brought under the number `brought_number h i`,
  pub brought : (o : Obeys file) {n p m : ℕ} {ss : List Substitution} (h : HasInstance o.fields n p m ss) (i : ℕ) → i < length (instanced h).definitions
      → (original_number h i < k) × (brought_number h i < k)
      × (definition_at (state_of file) (brought_number h i) ≡ brought_one (at_instance h) n p (instanced h) ss (original_number h i))
  -- and L6's sentences hold of the two cards.
  pub stays_lawful : (o : Obeys file) {n p m : ℕ} {ss : List Substitution} (h : HasInstance o.fields n p m ss) (i : ℕ) → i < length (instanced h).definitions
      → StaysLawful (is_constant (at_instance h) (instanced h)) (card_at_zero file left (original_number h i)) (card_at_zero file left (brought_number h i))
      (highest_substitute (at_instance h) p (instanced h) ss)
  -- No definition is 4 with parameters at 0.
  pub level_correct : (g : ℕ) → g < k → card_at_zero file left g < incorrect

-- "clears 14 and 21": of the causes that are judged before them it is enough that names are known and arguments rightly counted (9, 10), so that the substitutes are terms
abbrev pub cleared_numbers : List ℕ
cleared_numbers = 9 ∷ 10 ∷ 14 ∷ 21 ∷ []

-- L6's sentences of definition g of module m, as an INSTANCE field with p parameters and the substitutions ss brings it after what led to s; and what is brought is not 4
abbrev pub BroughtLawful : State → ℕ → ℕ → List Substitution → ℕ → Type 0
BroughtLawful s p m ss g =
    let M = source s m in
    StaysLawful (is_constant s M) (level_at_zero s g) (brought_level s p M ss g) (highest_substitute s p M ss) × (brought_level s p M ss g < incorrect)

-- LAWFUL INSTANCES
pub record LawfulInstances : Type 0 where
  -- "every brought definition of an instance that clears 14 and 21", whatever else is said of the field (16, say): it stands after fields that obey
  pub every_instance : (before : List Field) → All FieldFits before → EachObeys start before → (n p m : ℕ) (ss : List Substitution) → FieldFits (instance n p m ss)
      → All (Free (adds start before) (instance n p m ss)) cleared_numbers → All (BroughtLawful (adds start before) p m ss) (source (adds start before) m).definitions
  -- so of the cards of every accepted file
  pub every_card : (file lent : List ℕ) (k : ℕ) → check_tells file lent ≡ result k → CardsStayLawful file (check_leaves file lent) k
  -- "Hence cause 15 cannot arise any more": with 15 in its old place every file has the same verdict, cause and place and all that it adds.
  pub same_verdict : (file lent : List ℕ) → checked_with15 file lent ≡ checked file lent
  -- "leave the number unused": no reply has it.
  pub check_unused : (file lent : List ℕ) (p : ℕ) → ¬ (check_tells file lent ≡ refusal 15 p)
  pub level_unused : (file lent : List ℕ) (m : ℕ) (levels bytes : List ℕ) (p : ℕ) → ¬ (level_tells file lent m levels bytes ≡ refusal 15 p)
  pub alike_unused : (file lent : List ℕ) (g h p : ℕ) → ¬ (alike_tells file lent g h ≡ refusal 15 p)
  pub body_unused : (file lent : List ℕ) (g p : ℕ) → ¬ (body_tells file lent g ≡ refusal 15 p)
  pub expansion_unused : (file lent : List ℕ) (m n : ℕ) (bytes output : List ℕ) (p : ℕ) → ¬ (expand_tells file lent m n bytes output ≡ refusal 15 p)
