-- Why a file is refused, with which number and at which place.
use Rattle.std.specs.Prelude.{List, [], ◌++◌, ◌∷◌, ◌⊎◌, ◌≡◌, T, eqb, length, ◌<◌, ◌≤◌, ℕ}
use Rattle.std.proofs.Math.Option.{some}
use Rattle.laws.specs.Lawful.{EachObeys, adds, holds}
use Rattle.limits.specs.Limits.{card_memory_bytes, file_bytes}
use Rattle.rules.specs.Bytes.{cut, got, write_all}
use Rattle.rules.specs.Field.{Field, FieldFits, field}
use Rattle.rules.specs.Judge.{Cause, causes}
use Rattle.rules.specs.State.{State, outside, start}
use Rattle.theory.specs.Lists.{All, any, find}

-- c is one of some numbers
abbrev pub OneOf : List ℕ → ℕ → Type 0
OneOf ns c = T (any (eqb c) ns)

-- the numbers of a field's causes, in the order that they are judged: they rise but for 21, which is judged after 14 (paper 02, L5); 15 is unused (L6)
abbrev pub field_numbers : List ℕ
field_numbers = 4 ∷ 5 ∷ 6 ∷ 7 ∷ 8 ∷ 9 ∷ 10 ∷ 11 ∷ 12 ∷ 13 ∷ 14 ∷ 21 ∷ 16 ∷ []

-- "in it, the lowest number whose cause holds", and 21 in its turn: c is the first of the numbers, in the order judged, whose cause holds
abbrev pub JudgedFirst : List ℕ → List Cause → ℕ → Type 0
JudgedFirst numbers cs c = find (λ n. holds n cs) numbers ≡ some c

-- Why the bytes that are left, after the fields that led to s, are refused with c: 4, "file ends inside a module"; 3, "field or expression cut short, left over,
-- unknown tag, token or code, name 0, unnamed instance with parameters"; or of the field that is read the cause that is judged first. (Reading
-- undoes writing, and nothing else is read: `field-there`, `field_back` of laws/proofs/Fields.)
pub data Fault (s : State) (rest : List ℕ) (c : ℕ) : Type 0 where
  ends_inside : rest ≡ [] → ¬ (s.phase ≡ outside) → c ≡ 4 → Fault s rest c
  no_field : ¬ (rest ≡ []) → field.read rest ≡ cut → c ≡ 3 → Fault s rest c
  caused : (f : Field) (r : List ℕ) → field.read rest ≡ got f r → JudgedFirst field_numbers (causes s f) c → Fault s rest c

-- "The first field at fault counts": each field before it obeys the rules. "The place is the field's number from 0; for [..] a file that ends inside a module,
-- the number of fields."
pub record FirstAtFault (file : List ℕ) (c p : ℕ) : Type 0 where
  pub before : List Field
  pub fit : All FieldFits before
  pub obey : EachObeys start before
  pub rest : List ℕ
  pub written : write_all field before ++ rest ≡ file
  pub place : p ≡ length before
  pub fault : Fault (adds start before) rest c

-- Why a file is refused with c at p: 1, the memory lent is short ("The card memory needs 4,096 bytes in cause 1"); 2, "file empty or over its limit"; or a field at fault. "For 1, 2, 17 and 18 it is 0."
pub data FileRefused (file memory : List ℕ) (c p : ℕ) : Type 0 where
  little_memory : length memory < card_memory_bytes → c ≡ 1 → p ≡ 0 → FileRefused file memory c p
  wrong_size : card_memory_bytes ≤ length memory → (file ≡ []) ⊎ (file_bytes < length file) → c ≡ 2 → p ≡ 0 → FileRefused file memory c p
  at_field : card_memory_bytes ≤ length memory → ¬ (file ≡ []) → length file ≤ file_bytes → FirstAtFault file c p → FileRefused file memory c p

-- the numbers of a file's refusals
abbrev pub file_numbers : List ℕ
file_numbers = 1 ∷ 2 ∷ 3 ∷ field_numbers
