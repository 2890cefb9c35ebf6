-- LAWFUL INSTANCES STAY LAWFUL (paper 02, L6): `lawful-instances`, the last theorem.
use mathlib.Core.List.{List}
use mathlib.Core.Path.{◌∙◌, ◌≡◌, ap, subst, subst⁻¹, sym}
use lib.ListN.{length, length-replicate}
use native.Mathlib.Omega.{arith}
use Prim.Native.Nat.{◌<◌, ℕ}
use Rattle.demands.proofs.Accepted.{check-accepted, fields-add}
use Rattle.demands.proofs.Demand1.{demand-1}
use Rattle.demands.specs.Archive.{check_leaves, check_tells, state_of}
use Rattle.demands.specs.Demand1.{OneReply, full_result, refused_by_file, refused_by_query}
use Rattle.demands.specs.LawfulInstances.{BroughtLawful, CardsStayLawful, LawfulInstances, card_at_zero, cleared_numbers}
use Rattle.laws.proofs.Causes.{one_of}
use Rattle.laws.proofs.Cause15.{same-checked}
use Rattle.laws.proofs.Checks.{by-fields}
use Rattle.laws.proofs.ExpandedCards.{card-says}
use Rattle.laws.proofs.FileRefusals.{not-refusal, refusal-injective}
use Rattle.laws.proofs.Invariant.{Good, good-adds, good-file, good_start}
use Rattle.laws.proofs.LawfulBrought.{Cleared, brought-correct, brought-lawful, cleared}
use Rattle.laws.proofs.LawfulFiles.{brought-is, brought-there, original-there, stays_lawful}
use Rattle.laws.proofs.LevelCorrect.{file-level-correct, level-correct-adds, level-correct-start}
use Rattle.laws.proofs.Obeying.{obey-clears}
use Rattle.laws.proofs.Within.{within-file}
use Rattle.laws.specs.Lawful.{EachObeys, Free, Obeys, adds}
use Rattle.laws.specs.LawfulInstances.{HasInstance, StaysLawful, at_instance, brought_level, brought_number, highest_substitute, instanced, level_at_zero, original_number}
use Rattle.laws.specs.Cards.{card_in}
use Rattle.laws.specs.Refused.{OneOf, file_numbers}
use Rattle.rules.specs.Field.{Field, FieldFits, Substitution, instance}
use Rattle.rules.specs.Instance.{brought_one, is_constant, source}
use Rattle.rules.specs.Run.{Outcome, checked, memory_after, refusal, result}
use Rattle.rules.specs.State.{State, definition_at, params_of, start, zeros}
use Rattle.theory.proofs.Lists.{both-all, replicate-all}
use Rattle.theory.specs.Level.{IsLevel, incorrect}
use Rattle.theory.specs.Lists.{All}

-- AN INSTANCE after fields that obey
module _ (before : List Field) (fit : All FieldFits before) (obey : EachObeys start before) (n p m : ℕ) (ss : List Substitution) (fits : FieldFits (instance n p m ss))
    (free : All (Free (adds start before) (instance n p m ss)) cleared_numbers) where
  abbrev s : State
  s = adds start before

  good : Good s
  good = good-adds before start fit (obey-clears before start obey) good_start

  clear : Cleared s p m ss
  clear =
      let at : (c : ℕ) → OneOf cleared_numbers c → Free s (instance n p m ss) c = λ c t. one_of (Free s (instance n p m ss)) cleared_numbers c free t in
      cleared s n p m ss fits (at 9 tt) (at 10 tt) (at 14 tt) (at 21 tt)

  every_instance : All (BroughtLawful s p m ss) (source s m).definitions
  every_instance =
      both-all (λ g. StaysLawful (is_constant s (source s m)) (level_at_zero s g) (brought_level s p (source s m) ss g) (highest_substitute s p (source s m) ss))
      (λ g. brought_level s p (source s m) ss g < incorrect) (BroughtLawful s p m ss) (λ g a b. (a, b)) (source s m).definitions (brought-lawful s good p m ss clear)
      (brought-correct s good p m ss clear (level-correct-adds before start fit (obey-clears before start obey) good_start level-correct-start))

-- THE CARDS of an accepted file
module _ (file lent : List ℕ) (k : ℕ) (told : check_tells file lent ≡ result k) where
  accepted : checked file lent ≡ result (state_of file)
  accepted = (check-accepted file lent k told).0

  counted : length (state_of file).definitions ≡ k
  counted = (check-accepted file lent k told).1

  -- the level in memory is the card's
  card-at-zero : (g : ℕ) → g < k → card_at_zero file (check_leaves file lent) g ≡ level_at_zero (state_of file) g
  card-at-zero g l =
      let n = params_of (state_of file) g in
      let fields = by-fields file lent (state_of file) accepted in
      ap (λ (o : Outcome State). card_in (memory_after o lent) g (zeros n)) accepted
      ∙ card-says (state_of file) (good-file file (state_of file) fields) g (omega (arith, counted)) (within-file file (state_of file) fields) (zeros n) (length-replicate n 0)
      (replicate-all IsLevel n 0 (omega arith)) lent

  module _ (o : Obeys file) {n p m : ℕ} {ss : List Substitution} (h : HasInstance o.fields n p m ss) (i : ℕ) (there : i < length (instanced h).definitions) where
    brought : (original_number h i < k) × (brought_number h i < k)
        × (definition_at (state_of file) (brought_number h i) ≡ brought_one (at_instance h) n p (instanced h) ss (original_number h i))
    brought =
        let clear = obey-clears o.fields start o.each_obeys in
        let size : length (adds start o.fields).definitions ≡ k = subst (λ (s : State). length s.definitions ≡ k) (fields-add file o) counted in (
          subst (λ (k : ℕ). original_number h i < k) size (original-there o.laid_out.0 clear h i there),
          subst (λ (k : ℕ). brought_number h i < k) size (brought-there o.laid_out.0 clear h i there),
          ap (λ (s : State). definition_at s (brought_number h i)) (fields-add file o) ∙ brought-is o.laid_out.0 clear h i there,
        )

    lawful : StaysLawful (is_constant (at_instance h) (instanced h)) (card_at_zero file (check_leaves file lent) (original_number h i))
        (card_at_zero file (check_leaves file lent) (brought_number h i)) (highest_substitute (at_instance h) p (instanced h) ss)
    lawful =
        let in-state : (g : ℕ) → g < k → card_at_zero file (check_leaves file lent) g ≡ level_at_zero (adds start o.fields) g
        = λ g l. card-at-zero g l ∙ ap (λ (s : State). level_at_zero s g) (fields-add file o) in
        rw (in-state (original_number h i) brought.0, in-state (brought_number h i) brought.1)
        (stays_lawful o.laid_out.0 (obey-clears o.fields start o.each_obeys) h i there)

  every_card : CardsStayLawful file (check_leaves file lent) k
  every_card =
      record {
        brought = λ o h i l. brought o h i l;
        stays_lawful = λ o h i l. lawful o h i l;
        level_correct =
            λ g l. subst⁻¹ (λ (x : ℕ). x < incorrect) (card-at-zero g l)
            (file-level-correct file (state_of file) (by-fields file lent (state_of file) accepted) g (omega (arith, counted)));
      }

-- 15 is none of the numbers that a reply has
unused : {A : Type 0} {file lent : List ℕ} {Full : A → Type 0} {numbers : List ℕ} {Own : State → ℕ → ℕ → ℕ → Type 0} {reply : Outcome A} → OneReply file lent Full numbers Own reply
    → ¬ OneOf numbers 15 → (p : ℕ) → ¬ (reply ≡ refusal 15 p)
unused (full_result k e a q f) not p r = not-refusal a 15 p (sym q ∙ r)
unused (refused_by_file c p' e q t f) not p r = subst⁻¹ (OneOf file_numbers) (refusal-injective c p' 15 p (sym q ∙ r)).0 t
unused {numbers = ns} (refused_by_query k e c p' q t room o own) not p r = not (subst⁻¹ (OneOf ns) (refusal-injective c p' 15 p (sym q ∙ r)).0 t)

-- LAWFUL INSTANCES
pub lawful-instances : LawfulInstances
lawful-instances =
    record {
      every_instance = every_instance;
      every_card = every_card;
      same_verdict = same-checked;
      check_unused = λ file lent. unused (demand-1.check file lent) (λ t. t);
      level_unused = λ file lent m levels bytes. unused (demand-1.level file lent m levels bytes) (λ t. t);
      alike_unused = λ file lent g h. unused (demand-1.alike file lent g h) (λ t. t);
      body_unused = λ file lent g. unused (demand-1.body file lent g) (λ t. t);
      expansion_unused = λ file lent m n bytes output. unused (demand-1.expansion file lent m n bytes output) (λ t. t);
    }
