-- A row of the table as one number, and numbers put side by side in a list. The lower part of a row's number is a level form (what forms mean is said in
-- crate forms): its base is the row's level, none where it is the highest of the arguments'; each argument's label is its mask's. Above the form: how
-- many arguments, and what is bound. Definitions only.
use Rattle.std.specs.Prelude.{cond, List, [], ◌∷◌, ◌++◌, ℕ, zero, suc, ◌+◌, ◌*◌, ◌/◌, ◌%◌, eqb, ltb, length, set}
use Rattle.std.proofs.Math.Option.{Option, none, some}
use Rattle.theory.specs.Level.{Binder, Mask, Result, Row, always, in_body, plain, row, set_then_body, taken, the_highest}
use Rattle.rows.specs.Rows.{column, no_code, row_count}

-- the bits of a level; what is above 4 counts as 4
abbrev pub coded : ℕ → ℕ
coded zero = 0
coded (suc zero) = 1
coded (suc (suc zero)) = 3
coded (suc (suc (suc zero))) = 5
coded (suc (suc (suc (suc n)))) = 7

abbrev pub label_of : Mask → ℕ
label_of m = cond (taken m 4) 1 (cond (taken m 2) 0 2 + cond (taken m 3) 0 4)

abbrev pub labels_of : List Mask → ℕ
labels_of [] = 0
labels_of (m ∷ ms) = label_of m + 8 * labels_of ms

abbrev pub base_of : Result → ℕ
base_of the_highest = 0
base_of (always l) = coded l

-- a code that does not exist is not level-correct
abbrev pub word_of : Option Row → ℕ
word_of none = coded 4
word_of (some r) = base_of r.result + 8 * labels_of r.takes

abbrev pub count_of : Option Row → ℕ
count_of none = 0
count_of (some r) = length r.takes

-- 0 nothing is bound; 1, 2 a variable of level 0, 1; 3 there is no such code
abbrev pub binder_kind : Binder → ℕ
binder_kind plain = 0
binder_kind (in_body l) = 1 + l
binder_kind (set_then_body l) = 1 + l

abbrev pub kind_of : Option Row → ℕ
kind_of none = 3
kind_of (some r) = binder_kind r.binder

-- the form of a code's row
unfoldable pub word_of_row : ℕ → ℕ
word_of_row c = word_of (row c)

-- twelve bits for the form, two for the argument count, two for what is bound
abbrev pub form_size : ℕ
form_size = 4096

abbrev pub kind_size : ℕ
kind_size = 16384

abbrev pub number_of : Option Row → ℕ
number_of o = word_of o + form_size * count_of o + kind_size * kind_of o

unfoldable pub row_number : ℕ → ℕ
row_number c = number_of (row c)

-- the rows of the codes from 0 to 141
unfoldable pub row_column : List ℕ
row_column = column row_number 0 row_count

-- the rows that are kept: codes 104 to 127, then 140 and 141
abbrev pub kept_rows : List ℕ
kept_rows = column row_number 104 24 ++ column row_number 140 2

-- what is read off a row's number: the argument count; and the argument in which a variable is bound, the last
unfoldable pub arity_in : ℕ → ℕ
arity_in h = cond (ltb (h / kind_size) 3) (h / form_size % 4) no_code

unfoldable pub binder_in : ℕ → ℕ
binder_in h = cond (eqb (h / kind_size) 0) 0 (h / form_size % 4)

-- a list with x at the n places from i on
abbrev pub run_in : {A : Type 0} → A → ℕ → ℕ → List A → List A
run_in x i zero xs = xs
run_in x i (suc n) xs = run_in x (i + 1) n (set xs i x)
