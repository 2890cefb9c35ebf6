-- The form of a code's row gives the row's level, by one computed test over the table.
use mathlib.Core.Path.{◌≡◌, refl, sym, ap}
use mathlib.Core.Bool.{Bool}
use mathlib.Core.List.{List}
use mathlib.Core.Option.{Option, none as absent, some}
use Prim.Native.Nat.{ℕ}
use lib.Bits.{bit_or}
use lib.Dec.{T, eqb, eqb→eq}
use lib.ListN.{length}
use Rattle.theory.specs.Level.{IsLevel, Row, builtin_level, has, row, row_level, table}
use Rattle.theory.specs.Lists.{All, map_option}
use Rattle.theory.proofs.Finite.{at-list, at_lists}
use Rattle.theory.proofs.Lists.{every-all, find-has}
use Rattle.rows.specs.Rows.{arity_of, arity_number}
use Rattle.rows.specs.Numbers.{word_of_row, word_of}
use Rattle.forms.specs.Labels.{coded, level_of, under, whole}
use Rattle.forms.specs.Forms.{bits_at}
use Rattle.forms.proofs.Forms.{gives_none}

abbrev good_row : Row → Bool
good_row r = at_lists (length r.takes) (λ ls. eqb (coded (row_level (some r) ls)) (bits_at (word_of (some r)) ls))

good-row : (c : ℕ) (r : Row) → row c ≡ some r → T (good_row r)
unfolding row bits_at whole level_of under
good-row c r p = (find-has (λ (r : Row). T (good_row r)) (has c) table r (every-all good_row table tt) p).0

-- what the row of a code says of its arguments' levels
pub row_gives : (c : ℕ) (ls : List ℕ) → length ls ≡ arity_of c → All IsLevel ls → coded (builtin_level c ls) ≡ bits_at (word_of_row c) ls
unfolding arity_of word_of_row bits_at whole level_of
row_gives c ls h a = go (row c) refl h
  where
    go : (o : Option Row) → row c ≡ o → length ls ≡ arity_number (map_option (λ r. length r.takes) o) → coded (row_level o ls) ≡ bits_at (word_of o) ls
    go absent p e = ap (bit_or 7) (sym (gives_none ls))
    go (some r) p e =
        eqb→eq (coded (row_level (some r) ls)) (bits_at (word_of (some r)) ls)
        (at-list (length r.takes) (λ ls. eqb (coded (row_level (some r) ls)) (bits_at (word_of (some r)) ls)) (good-row c r p) ls a e)
