-- CAUSE 15, which is not used any more (paper 02, L6): what it was, and the check with it in its old place, after 21 and before 16.
use Rattle.std.specs.Prelude.{Bool, ◌||◌, cond, false, List, [], ◌∷◌, eqb, ltb, length, suc, zero, ℕ}
use Rattle.laws.specs.LawfulInstances.{brought_level}
use Rattle.limits.specs.Limits.{card_memory_bytes, file_bytes}
use Rattle.rules.specs.Bytes.{Read, cut, got, is_empty}
use Rattle.rules.specs.Field.{Field, assume, begin_module, declare_constant, declare_variable, definition, end_module, extends, field, instance, theorem}
use Rattle.rules.specs.Instance.{source}
use Rattle.rules.specs.Judge.{Cause, causes, first_cause}
use Rattle.rules.specs.Run.{Outcome, and_then, end_in, judged, refusal}
use Rattle.rules.specs.State.{State, start}
use Rattle.theory.specs.Level.{verdict}
use Rattle.theory.specs.Lists.{any}

-- "a brought definition is 4 with parameters at 0"
abbrev pub brought_incorrect : State → Field → Bool
brought_incorrect s (begin_module n) = false
brought_incorrect s (extends m ms) = false
brought_incorrect s (declare_constant n k) = false
brought_incorrect s (declare_variable n) = false
brought_incorrect s (definition n p e) = false
brought_incorrect s (instance n p m ss) = any (λ g. verdict (brought_level s p (source s m) ss g)) (source s m).definitions
brought_incorrect s end_module = false
brought_incorrect s (assume e) = false
brought_incorrect s (theorem e) = false

-- causes with one more, before that of number n
abbrev pub insert_before : ℕ → Cause → List Cause → List Cause
insert_before n c [] = []
insert_before n c (d ∷ ds) = cond (eqb n d.0) (c ∷ d ∷ ds) (d ∷ insert_before n c ds)

-- the number that it was judged before; only an INSTANCE has it
abbrev pub next_of15 : ℕ
next_of15 = 16

-- the causes of a field with 15 among them
abbrev pub causes_with15 : State → Field → List Cause
causes_with15 s f = insert_before next_of15 (15, brought_incorrect s f) (causes s f)

-- and so the check of a file: `from_field`, `judge_from`, `judge_file` and `checked` of rules/specs/Run, with these causes
abbrev pub from_field_with15 : Read Field → State → (List ℕ → State → Outcome State) → Outcome State
from_field_with15 cut s go = refusal 3 s.fields
from_field_with15 (got f rest) s go = and_then (judged (first_cause (causes_with15 s f)) s f) (go rest)

abbrev pub judge_from_with15 : ℕ → List ℕ → State → Outcome State
judge_from_with15 zero bs s = end_in s.phase s
judge_from_with15 (suc n) bs s = cond (is_empty bs) (end_in s.phase s) (from_field_with15 (field.read bs) s (judge_from_with15 n))

abbrev pub judge_file_with15 : List ℕ → Outcome State
judge_file_with15 file = judge_from_with15 (length file) file start

abbrev pub checked_with15 : List ℕ → List ℕ → Outcome State
checked_with15 file memory =
    let fields = judge_file_with15 file in
    cond (ltb (length memory) card_memory_bytes) (refusal 1 0)
    (cond (is_empty file || ltb file_bytes (length file)) (refusal 2 0) fields)
