-- The table by name: its turns, and that what is looked up by it is what the context says.
use borrow.Author.Tests.{eq-eqb, eqb-false, eqb-true, ne_eqb}
use mathlib.Core.Bool.{Bool, false, true}
use mathlib.Core.List.{List, ◌∷◌}
use mathlib.Core.Option.{some}
use mathlib.Core.Path.{◌∙◌, ◌≡◌, ap, ap₂, refl, subst, sym}
use Prim.Native.Nat.{ℕ, zero, suc, ◌+◌, ◌-◌, ◌*◌, ◌/◌, ◌%◌, ◌<◌, ◌≤◌}
use native.Mathlib.Omega.{arith}
use lib.Dec.{eqb}
use lib.ListN.{get_or, length, length-set, replicate, set}
use lib.Seq.{get_or-set_other, get_or-set_same}
use Rattle.tokens.specs.Token.{number_at}
use Rattle.tokens.specs.declared.Token.{Token}
use Rattle.tokens.specs.declared.Token.TheVariants.{InstanceOperator, Name}
use Rattle.context.specs.Lookup.{as_code, brought_at, brought_in, code_named, operator_at, operator_in}
use Rattle.context.specs.Parts.{part}
use Rattle.context.specs.Entries.{word_count}
use Rattle.std.specs.Prelude.{Option as Answer, Some, None}
use Rattle.context.specs.declared.Brought.{Brought}
use Rattle.context.specs.declared.Operator.{Operator}
use Rattle.context.proofs.Parts.{part_end, part-turn}
use Rattle.resolve.specs.Look.{brought_ref, look_in, operator_ref}
use Rattle.resolve.specs.declared.Look.{Look}
use Rattle.tables.specs.Tables.{table_bytes, tables_in}
use Rattle.tables.proofs.Parts.{place-number, places-length}
use Rattle.tables.specs.Names.{Tabled, TabledFrom, Zeroed, code_at, name_bytes, placed}
use Rattle.store.specs.declared.Facts.{Facts}

-- an entry of the table
module _ (contexts : List ℕ) (from w : ℕ) where
  pub entry-none : w ≡ 0 → None ≡ as_code (code_at contexts from w)
  unfolding as_code code_at
  entry-none h = rw h refl

  pub entry-some : (o : ℕ) → (w ≡ 0 → ⊥) → o ≡ get_or contexts (from + (w - 1)) 0 → Some o ≡ as_code (code_at contexts from w)
  unfolding as_code code_at
  entry-some o h e = rw (ne_eqb w 0 h, ← e) refl

-- two bytes put in the table
module _ (table : List ℕ) (n w : ℕ) where
  pub length-placed : length (placed table (2 * n) w) ≡ length table
  unfolding placed
  length-placed = length-set (set table (2 * n) (w / 256)) (2 * n + 1) (w % 256) ∙ length-set table (2 * n) (w / 256)

  placed_same : 2 * n + 1 < length table → number_at (placed table (2 * n) w) (2 * n) ≡ w
  unfolding placed
  placed_same h =
      let a : 2 * n ≡ 2 * n + 1 → ⊥ = λ (z : 2 * n ≡ 2 * n + 1). omega arith in
      let b : get_or (set (set table (2 * n) (w / 256)) (2 * n + 1) (w % 256)) (2 * n) 0 ≡ w / 256
      = get_or-set_other (set table (2 * n) (w / 256)) (2 * n + 1) (2 * n) (w % 256) 0 a ∙ get_or-set_same table (2 * n) (w / 256) 0 (omega arith) in
      let c : get_or (set (set table (2 * n) (w / 256)) (2 * n + 1) (w % 256)) (2 * n + 1) 0 ≡ w % 256
      = get_or-set_same (set table (2 * n) (w / 256)) (2 * n + 1) (w % 256) 0 (omega (arith, length-set table (2 * n) (w / 256))) in
      omega (arith, b, c)

  placed-other : (m : ℕ) → (m ≡ n → ⊥) → number_at (placed table (2 * n) w) (2 * m) ≡ number_at table (2 * m)
  unfolding placed
  placed-other m h =
      let a : (i j : ℕ) → i < 2 → j < 2 → 2 * m + i ≡ 2 * n + j → ⊥ = λ i j (p : i < 2) (q : j < 2) (z : 2 * m + i ≡ 2 * n + j). h (omega arith) in
      let b : (i : ℕ) → i < 2 → get_or (set (set table (2 * n) (w / 256)) (2 * n + 1) (w % 256)) (2 * m + i) 0 ≡ get_or table (2 * m + i) 0
      = λ i p. get_or-set_other (set table (2 * n) (w / 256)) (2 * n + 1) (2 * m + i) (w % 256) 0 (a i 1 p (omega arith))
      ∙ get_or-set_other table (2 * n) (2 * m + i) (w / 256) 0 (λ (z : 2 * m + i ≡ 2 * n). h (omega arith)) in
      let x : 2 * m + 0 ≡ 2 * m = omega arith in
      ap₂ (λ (y z : ℕ). y * 256 + z) (subst (λ (k : ℕ). get_or (set (set table (2 * n) (w / 256)) (2 * n + 1) (w % 256)) k 0 ≡ get_or table k 0) x (b 0 (omega arith)))
      (b 1 (omega arith))

-- the codes from place i on are in the table
pub record Placing (names contexts : List ℕ) (from end i : ℕ) (table : List ℕ) : Type 0 where
  pub size : length table ≡ name_bytes
  pub low : from ≤ i
  pub high : i ≤ end
  pub tabled : TabledFrom names contexts from end i table

pub placing-start : (names contexts : List ℕ) (from end : ℕ) (table : List ℕ) → length table ≡ name_bytes → Zeroed table → from ≤ end
    → Placing names contexts from end end table
unfolding code_at code_named
placing-start names contexts from end table size z h = record {
  size = size;
  low = h;
  high = omega arith;
  tabled = record { at = λ n l. rw (z.at (2 * n), z.at (2 * n + 1), part_end contexts end end (omega arith)) refl };
}

module _ (names contexts : List ℕ) (from end i : ℕ) (table : List ℕ) (inv : Placing names contexts from end i table) where
  pub placing-size : (d : List ℕ) → length d ≡ name_bytes → length table ≡ length d
  placing-size d h = inv.size ∙ sym h

  module _ (j o n w : ℕ) (down : from < i) (ej : j ≡ i - 1) (eo : o ≡ get_or contexts j 0) (en : n ≡ get_or names o 0) (ew : w ≡ j - from + 1) (room : n < word_count) where
    pub placing-inside : (k : ℕ) → k ≡ 2 * n → k + 1 < length table
    placing-inside k e = omega (arith, inv.size)

    this : part contexts j (end - j) ≡ o ∷ part contexts i (end - i)
    this =
        let d : j + 1 ≡ i = omega arith in
        part-turn contexts j end (omega (arith, inv.high))
        ∙ ap (λ (k : ℕ). get_or contexts j 0 ∷ part contexts k (end - k)) d ∙ ap (λ (x : ℕ). x ∷ part contexts i (end - i)) (sym eo)

    pub placing-turn : (k : ℕ) (table' : List ℕ) → k ≡ 2 * n → table' ≡ placed table k w → Placing names contexts from end j table'
    unfolding code_at code_named
    placing-turn k table' q h = let e : table' ≡ placed table (2 * n) w = h ∙ ap (λ (i : ℕ). placed table i w) q in record {
      size = ap length e ∙ length-placed table n w ∙ inv.size;
      low = omega arith;
      high = omega (arith, inv.high);
      tabled = record { at = λ m l. rw e (go m (omega (arith, ap length e, length-placed table n w)) (eqb m n) refl) };
    }
      where
        found : some o ≡ code_at contexts from w
        found =
            let d : from + (w - 1) ≡ j = omega arith in
            let z : w ≡ 0 → ⊥ = λ (y : w ≡ 0). omega arith in
            rw (ne_eqb w 0 z, d, eo) refl

        go : (m : ℕ) → 2 * m + 1 < length table → (b : Bool) → eqb m n ≡ b
            → code_at contexts from (number_at (placed table (2 * n) w) (2 * m)) ≡ code_named names m (part contexts j (end - j))
        go m l true p =
            let q : m ≡ n = eqb-true m n p in
            rw (q, placed_same table n w (rw q at l), this, ← en, eq-eqb n n refl) (sym found)
        go m l false p =
            let q : m ≡ n → ⊥ = eqb-false m n p in
            rw (placed-other table n w m q, this, ← en, p) (inv.tabled.at m l)

  pub placing-end : i ≤ from → Tabled names contexts from end table
  placing-end h = let e : i ≡ from = omega (arith, inv.low) in subst (λ (k : ℕ). TabledFrom names contexts from end k table) e inv.tabled

-- a name found by the table
pub by-table : (names contexts : List ℕ) (from end : ℕ) (t : List ℕ) (n w : ℕ) (r : Answer ℕ) → Tabled names contexts from end (tables_in t).places → table_bytes ≤ length t
    → n < word_count → w ≡ number_at t (2 * n) → r ≡ as_code (code_at contexts from w) → r ≡ as_code (code_named names n (part contexts from (end - from)))
by-table names contexts from end t n w r d h l ew e =
    let a : name_bytes ≤ length (tables_in t).places = places-length t h in
    e ∙ ap (λ (y : ℕ). as_code (code_at contexts from y)) (ew ∙ place-number t n l) ∙ ap as_code (d.at n (omega arith))

-- what a code that was found means
module _ (facts : List Facts) (x : Answer ℕ) where
  pub name-code : (o : ℕ) (y : Answer Operator) (r : Answer Look) → x ≡ Some o → y ≡ operator_at facts o → r ≡ operator_ref facts y → r ≡ operator_ref facts (operator_in facts x)
  unfolding operator_in
  name-code o y r e ey er = er ∙ rw (e, ey) refl

  pub no_name : x ≡ None → None ≡ operator_ref facts (operator_in facts x)
  unfolding operator_in operator_ref
  no_name e = rw e refl

module _ (names : List ℕ) (facts : List Facts) (x : Answer ℕ) where
  pub instance-code : (i f o : ℕ) (y : Answer Brought) (r : Answer Look) → x ≡ Some o → y ≡ brought_at facts o → r ≡ brought_ref names facts i f y
      → r ≡ brought_ref names facts i f (brought_in facts x)
  unfolding brought_in
  instance-code i f o y r e ey er = er ∙ rw (e, ey) refl

  pub no-instance : (i f : ℕ) → x ≡ None → None ≡ brought_ref names facts i f (brought_in facts x)
  unfolding brought_in brought_ref
  no-instance i f e = rw e refl

module _ (names : List ℕ) (facts : List Facts) (cs : List ℕ) (t : Token) (x : Answer ℕ) (r : Answer Look) where
  pub look-name : (n k : ℕ) → t ≡ Name n k → x ≡ as_code (code_named names n cs) → r ≡ operator_ref facts (operator_in facts x) → r ≡ look_in names facts cs t
  unfolding look_in
  look-name n k et ex er = er ∙ rw (ex, et) refl

  pub look-instance : (i f k : ℕ) → t ≡ InstanceOperator i f k → x ≡ as_code (code_named names i cs) → r ≡ brought_ref names facts i f (brought_in facts x)
      → r ≡ look_in names facts cs t
  unfolding look_in
  look-instance i f k et ex er = er ∙ rw (ex, et) refl

-- a table just made
zeros-at : (k n : ℕ) → ◌≡◌ {A = ℕ} (get_or (replicate k 0) n 0) 0
zeros-at zero n = refl
zeros-at (suc k) zero = refl
zeros-at (suc k) (suc n) = zeros-at k n

pub zeroed : (k : ℕ) → Zeroed (replicate k 0)
zeroed k = record { at = λ n. zeros-at k n }

-- what is read of a part that was lent
module _ {A B : Type 0} (f : List ℕ → A → B) where
  pub of-lent : (l l' : List ℕ) (x : A) (r : B) → l ≡ l' → r ≡ f l x → r ≡ f l' x
  of-lent l l' x r e h = h ∙ ap (λ (y : List ℕ). f y x) e
