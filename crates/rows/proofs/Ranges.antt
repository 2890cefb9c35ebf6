-- One computed test of every code from 0 to 255: the codes of a range have the row of its first ("repeat one another"), the place of a row that is kept is
-- its code's, and what is read off a row's number, its form, argument count and binder, is what theory's `row` says. No row is written here: they are
-- computed, and `row`'s proof compares them with the numbers of the code, the first row of each range and the whole array of those that are kept.
-- Assumes nothing.
use mathlib.Core.Path.{◌≡◌, refl, ap, subst⁻¹, ◌∙◌}
use mathlib.Core.Bool.{Bool, ◌&&◌}
use mathlib.Core.List.{List, [], ◌∷◌}
use mathlib.Core.Option.{Option}
use Prim.Native.Nat.{ℕ, ◌+◌, ◌-◌, ◌/◌, ◌%◌, ◌≤◌, ◌<◌}
use native.Mathlib.Omega.{arith}
use native.Mathlib.Decide.{dec_lt}
use lib.Dec.{T, ltb, ltb→lt, eqb, eqb→eq}
use lib.ListN.{get_or, length}
use Rattle.theory.specs.Level.{Row, row, row_binder}
use Rattle.theory.specs.Lists.{map_option}
use Rattle.rows.specs.Rows.{arity_number, arity_of, binder_number, binder_of, row_count}
use Rattle.rows.specs.Numbers.{kept_rows, arity_in, binder_in, form_size, kind_of, kind_size, word_of, word_of_row, number_of, row_number}
use Rattle.rows.proofs.Columns.{no_row, both_left, both_right, below, below_at}

-- the ranges: the first code of each, and how many codes it has; the codes past the last are one too
abbrev firsts : List ℕ
firsts = 0 ∷ 16 ∷ 48 ∷ 96 ∷ 128 ∷ 132 ∷ 142 ∷ []

abbrev counts : List ℕ
counts = 16 ∷ 32 ∷ 48 ∷ 8 ∷ 4 ∷ 8 ∷ 114 ∷ []

-- code i of range k
abbrev in_range : ℕ → ℕ → ℕ
in_range k i = get_or firsts k 0 + i

abbrev repeats : ℕ → ℕ → Bool
repeats k i = eqb (row_number (in_range k 0)) (row_number (in_range k i))

abbrev one_row : ℕ → Bool
one_row k = below (repeats k) (get_or counts k 0)

-- a row's number taken apart as the code does, and what the table says
abbrev pub parts : ℕ → List ℕ
parts h = h % form_size ∷ arity_in h ∷ binder_in h ∷ h / kind_size ∷ []

abbrev pub columns : ℕ → List ℕ
columns c = word_of_row c ∷ arity_of c ∷ binder_of c ∷ kind_of (row c) ∷ []

abbrev column_right : ℕ → ℕ → Bool
column_right c k = eqb (get_or (parts (row_number c)) k 0) (get_or (columns c) k 0)

abbrev columns_right : ℕ → Bool
columns_right c = below (column_right c) 4

-- a row that is kept, by its place
abbrev low_kept : ℕ → Bool
low_kept i = eqb (get_or kept_rows i 0) (row_number (104 + i))

abbrev high_kept : ℕ → Bool
high_kept i = eqb (get_or kept_rows (24 + i) 0) (row_number (140 + i))

abbrev kept_right : Bool
kept_right = below low_kept 24 && below high_kept 2

abbrev rows_right : Bool
rows_right = below one_row 7 && kept_right

every-code : T (rows_right && below columns_right 256)
unfolding row_number word_of_row arity_in binder_in arity_of binder_of row
every-code = tt

rows_right_lem : T rows_right
rows_right_lem = both_left rows_right (below columns_right 256) every-code

kept-right : T kept_right
kept-right = both_right (below one_row 7) kept_right rows_right_lem

-- range k: its codes have the row of the first
pub in-range : (k : ℕ) → T (ltb k 7) → (c : ℕ) → in_range k 0 ≤ c → c < in_range k (get_or counts k 0) → row_number (in_range k 0) ≡ row_number c
in-range k t c l h =
    let i = c - in_range k 0 in
    let e : in_range k i ≡ c = omega arith in
    let s = below_at one_row 7 k (both_left (below one_row 7) kept_right rows_right_lem) (ltb→lt k 7 t) in
    eqb→eq (row_number (in_range k 0)) (row_number (in_range k i)) (below_at (repeats k) (get_or counts k 0) i s (omega arith)) ∙ ap row_number e

pub kept_low : (c : ℕ) → 104 ≤ c → c ≤ 127 → get_or kept_rows (c - 104) 0 ≡ row_number c
kept_low c l h =
    let i = c - 104 in
    let e : 104 + i ≡ c = omega arith in
    eqb→eq (get_or kept_rows i 0) (row_number (104 + i)) (below_at low_kept 24 i (both_left (below low_kept 24) (below high_kept 2) kept-right) (omega arith)) ∙ ap row_number e

pub kept_high : (c : ℕ) → 140 ≤ c → c ≤ 141 → get_or kept_rows (c - 116) 0 ≡ row_number c
kept_high c l h =
    let i = c - 140 in
    let e : 140 + i ≡ c = omega arith in
    let p : c - 116 ≡ 24 + i = omega arith in
    rw p (eqb→eq (get_or kept_rows (24 + i) 0) (row_number (140 + i)) (below_at high_kept 2 i (both_right (below low_kept 24) (below high_kept 2) kept-right) (omega arith)) ∙ ap row_number e)

no-parts : (k c : ℕ) → row_count ≤ c → get_or (parts (row_number c)) k 0 ≡ get_or (columns c) k 0
unfolding row_number word_of_row arity_in binder_in arity_of binder_of
no-parts k c h =
    subst⁻¹ (λ (o : Option Row). get_or (parts (number_of o)) k 0 ≡ get_or (word_of o ∷ arity_number (map_option (λ r. length r.takes) o) ∷ binder_number (row_binder o) ∷ kind_of o ∷ []) k 0)
    (no_row c h) refl

-- part k of a row
pub part_of : (k : ℕ) → T (ltb k 4) → (c h : ℕ) → h ≡ row_number c → get_or (parts h) k 0 ≡ get_or (columns c) k 0
part_of k t c h e = ap (λ x. get_or (parts x) k 0) e ∙ go (dec_lt c 256)
  where
    go : Dec (c < 256) → get_or (parts (row_number c)) k 0 ≡ get_or (columns c) k 0
    go (yes l) =
        let s = below_at columns_right 256 c (both_right rows_right (below columns_right 256) every-code) l in
        eqb→eq (get_or (parts (row_number c)) k 0) (get_or (columns c) k 0) (below_at (column_right c) 4 k s (ltb→lt k 4 t))
    go (no l) = no-parts k c (omega arith)
