-- The number of a row taken apart: how many arguments, what is bound, and the form.
-- Assumes nothing.
use mathlib.Core.Path.{◌≡◌, refl, sym, ◌∙◌}
use mathlib.Core.Bool.{cond}
use mathlib.Core.Option.{Option, none as absent, some}
use Prim.Native.Nat.{ℕ, ◌+◌, ◌*◌, ◌/◌, ◌%◌, ◌-◌, ◌≤◌, ◌<◌}
use native.Mathlib.Omega.{arith}
use borrow.Author.Tests.{le-ltb, lt-ltb, ne_eqb}
use lib.Dec.{eqb}
use Rattle.theory.specs.Level.{Binder, Row, in_body, plain, row, row_binder, set_then_body, variable_level}
use Rattle.rows.specs.Rows.{arity_of, binder_number, binder_of, bound_level_of, no_code}
use Rattle.rows.specs.Numbers.{arity_in, binder_in, binder_kind, form_size, kind_of, kind_size, row_number, word_of_row}
use Rattle.rows.proofs.Ranges.{part_of}

module _ (c h : ℕ) (e : h ≡ row_number c) where
  pub row_word : h % form_size ≡ word_of_row c
  row_word = part_of 0 tt c h e

  pub row-arity : (n : ℕ) → n ≡ arity_in h → n ≡ arity_of c
  row-arity n p = p ∙ part_of 1 tt c h e

  pub row-binder : (n : ℕ) → n ≡ binder_in h → n ≡ binder_of c
  row-binder n p = p ∙ part_of 2 tt c h e

  -- a code exists where its kind is below 3
  pub row-none : 3 ≤ h / kind_size → arity_of c ≡ no_code
  unfolding arity_in
  row-none k = sym (rw (le-ltb (h / kind_size) 3 k) at (part_of 1 tt c h e))

  pub row_count : h / kind_size < 3 → h / form_size % 4 ≡ arity_of c
  unfolding arity_in
  row_count k = rw (lt-ltb (h / kind_size) 3 k) at (part_of 1 tt c h e)

  pub row_low : h / kind_size < 3 → arity_of c < 4
  row_low k = let p = row_count k in omega arith

-- what is bound, as digits put before others
abbrev pub binds_by : ℕ → ℕ → ℕ → ℕ
binds_by b l bits = cond (eqb b 0) bits (bits * 2 + l)

one_more : (l n bits : ℕ) → (n ≡ 0 → ⊥) → binds_by (1 + l) (1 + l - 1) bits ≡ binds_by n l bits
one_more l n bits h =
    let e : 1 + l - 1 ≡ l = omega arith in
    rw (ne_eqb (1 + l) 0 (λ (z : 1 + l ≡ 0). omega arith), ne_eqb n 0 h, e) refl

by-binder : (b : Binder) (bits : ℕ) → binds_by (binder_kind b) (binder_kind b - 1) bits ≡ binds_by (binder_number b) (variable_level b) bits
by-binder plain bits = refl
by-binder (in_body l) bits = one_more l 1 bits (λ (z : ◌≡◌ {A = ℕ} 1 0). omega arith)
by-binder (set_then_body l) bits = one_more l 2 bits (λ (z : ◌≡◌ {A = ℕ} 2 0). omega arith)

pub row-inner : (c h bits : ℕ) → h ≡ row_number c → h / kind_size < 3 → binds_by (h / kind_size) (h / kind_size - 1) bits ≡ binds_by (binder_of c) (bound_level_of c) bits
unfolding binder_of bound_level_of
row-inner c h bits e k = go (row c) (part_of 3 tt c h e)
  where
    go : (o : Option Row) → h / kind_size ≡ kind_of o → binds_by (h / kind_size) (h / kind_size - 1) bits ≡ binds_by (binder_number (row_binder o)) (variable_level (row_binder o)) bits
    go absent q = absurd (omega arith)
    go (some r) q = rw q (by-binder r.binder bits)
