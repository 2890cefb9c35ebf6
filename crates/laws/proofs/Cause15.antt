-- "Hence cause 15 cannot arise any more": with 15 in its old place every file has the same outcome, cause and place and all that it adds.
use borrow.Author.Tests.{ne_eqb}
use mathlib.Core.Bool.{Bool, ◌||◌, cond, false, true}
use mathlib.Core.List.{List, [], ◌∷◌}
use mathlib.Core.Option.{Option, none, some}
use mathlib.Core.Path.{◌∙◌, ◌≡◌, ap, refl}
use lib.Dec.{eqb, ltb}
use lib.ListN.{length}
use native.Mathlib.Omega.{arith}
use Prim.Native.Nat.{◌<◌, suc, zero, ℕ}
use Rattle.laws.proofs.Causes.{NoneHolds, cause_of, free-cause}
use Rattle.laws.proofs.Fields.{field_back}
use Rattle.laws.proofs.Invariant.{Good, expressions-read, good-add, good_start}
use Rattle.laws.proofs.LawfulBrought.{brought-correct}
use Rattle.laws.proofs.LevelCorrect.{level-correct-add, level-correct-start}
use Rattle.laws.proofs.Obeying.{none_free}
use Rattle.laws.specs.Cause15.{brought_incorrect, causes_with15, checked_with15, from_field_with15, insert_before, judge_file_with15, judge_from_with15, next_of15}
use Rattle.laws.specs.LawfulInstances.{LevelCorrect, brought_level}
use Rattle.limits.specs.Limits.{card_memory_bytes, file_bytes}
use Rattle.rules.specs.Add.{add}
use Rattle.rules.specs.Bytes.{Read, cut, got, is_empty}
use Rattle.rules.specs.Field.{Field, FieldFits, assume, begin_module, declare_constant, declare_variable, definition, end_module, extends, field, instance, theorem}
use Rattle.rules.specs.Instance.{source}
use Rattle.rules.specs.Judge.{Cause, causes, first_cause, judge}
use Rattle.rules.specs.Run.{Outcome, and_then, checked, end_in, from_field, judge_file, judge_from, judged, refusal}
use Rattle.rules.specs.State.{State, start}
use Rattle.theory.specs.Level.{incorrect, verdict}
use Rattle.theory.specs.Lists.{All, any}

-- the causes before that of number n
abbrev up_to : ℕ → List Cause → List Cause
up_to n [] = []
up_to n (d ∷ ds) = cond (eqb n d.0) [] (d ∷ up_to n ds)

-- a cause that cannot hold where none before it does may stand there or not
inserted : (n : ℕ) (c : Cause) (cs : List Cause) → (NoneHolds (up_to n cs) → c.1 ≡ false) → first_cause (insert_before n c cs) ≡ first_cause cs
inserted n c [] h = refl
inserted n c (d ∷ ds) h = go (eqb n d.0) h (inserted n c ds)
  where
    after : (b : Bool) → d.1 ≡ b → (NoneHolds (d ∷ up_to n ds) → c.1 ≡ false) → ((NoneHolds (up_to n ds) → c.1 ≡ false) → first_cause (insert_before n c ds) ≡ first_cause ds)
        → cond b (some d.0) (first_cause (insert_before n c ds)) ≡ cond b (some d.0) (first_cause ds)
    after true e h below = refl
    after false e h below = below (λ k. h (e, k))

    go : (b : Bool) → (NoneHolds (cond b [] (d ∷ up_to n ds)) → c.1 ≡ false) → ((NoneHolds (up_to n ds) → c.1 ≡ false) → first_cause (insert_before n c ds) ≡ first_cause ds)
        → first_cause (cond b (c ∷ d ∷ ds) (d ∷ insert_before n c ds)) ≡ first_cause (d ∷ ds)
    go true h below = ap (λ (b : Bool). cond b (some c.0) (first_cause (d ∷ ds))) (h tt)
    go false h below = after d.1 refl h below

none_passes : (t : ℕ → ℕ) (gs : List ℕ) → All (λ g. t g < incorrect) gs → any (λ g. verdict (t g)) gs ≡ false
none_passes t [] a = refl
none_passes t (g ∷ gs) a =
    let low : t g < incorrect = a.0 in
    rw (ne_eqb incorrect (t g) (λ (e : incorrect ≡ t g). omega arith)) (none_passes t gs a.1)

-- A field has the cause that it has without 15.
same-cause : (s : State) (f : Field) → FieldFits f → Good s → LevelCorrect s → first_cause (causes_with15 s f) ≡ judge s f
same-cause s (begin_module n) h good low = refl
same-cause s (extends m ms) h good low = refl
same-cause s (declare_constant n k) h good low = refl
same-cause s (declare_variable n) h good low = refl
same-cause s (definition n p e) h good low = refl
same-cause s (instance n p m ss) h good low =
    inserted next_of15 (15, brought_incorrect s (instance n p m ss)) (causes s (instance n p m ss)) λ c.
    let before = up_to next_of15 (causes s (instance n p m ss)) in
    let at : (k : ℕ) → cause_of k before ≡ false = λ k. free-cause k before (none_free before k c) in
    none_passes (brought_level s p (source s m) ss) (source s m).definitions
    (brought-correct s good p m ss (record { read = expressions-read n p m ss h; known = at 9; counted = at 10; levels-lawful = at 14; not_mixed = at 21 }) low)
same-cause s end_module h good low = refl
same-cause s (assume e) h good low = refl
same-cause s (theorem e) h good low = refl

same-run : (n : ℕ) (bs : List ℕ) (s : State) → Good s → LevelCorrect s → judge_from_with15 n bs s ≡ judge_from n bs s
same-run zero bs s good low = refl
same-run (suc n) bs s good low = ap (cond (is_empty bs) (end_in s.phase s)) (by_field (field.read bs) refl (λ r t g l. same-run n r t g l))
  where
    by_cause : (o : Option ℕ) (f : Field) (r : List ℕ) → FieldFits f → judge s f ≡ o → ((r : List ℕ) (t : State) → Good t → LevelCorrect t → judge_from_with15 n r t ≡ judge_from n r t)
        → and_then (judged o s f) (judge_from_with15 n r) ≡ and_then (judged o s f) (judge_from n r)
    by_cause none f r h j below = below r (add s f) (good-add s f h j good) (level-correct-add s f h j good low)
    by_cause (some c) f r h j below = refl

    by_field : (x : Read Field) → field.read bs ≡ x → ((r : List ℕ) (t : State) → Good t → LevelCorrect t → judge_from_with15 n r t ≡ judge_from n r t)
        → from_field_with15 x s (judge_from_with15 n) ≡ from_field x s (judge_from n)
    by_field cut q below = refl
    by_field (got f r) q below =
        let h = (field_back bs f r q).0 in
        ap (λ (o : Option ℕ). and_then (judged o s f) (judge_from_with15 n r)) (same-cause s f h good low) ∙ by_cause (judge s f) f r h refl below

pub same_outcome : (file : List ℕ) → judge_file_with15 file ≡ judge_file file
same_outcome file = same-run (length file) file start good_start level-correct-start

pub same-checked : (file memory : List ℕ) → checked_with15 file memory ≡ checked file memory
same-checked file memory =
    ap (λ (o : Outcome State). cond (ltb (length memory) card_memory_bytes) (refusal 1 0) (cond (is_empty file || ltb file_bytes (length file)) (refusal 2 0) o)) (same_outcome file)
