-- The table of the definitions by name: its turns, and that what is found by it is what a search finds.
use borrow.Author.Tests.{eq-eqb, eqb-false, eqb-true, le-leb, leb-true, lt-leb, ltb-false, ltb-true, ne_eqb}
use mathlib.Core.Bool.{Bool, ◌&&◌, cond, false, true}
use mathlib.Core.List.{List}
use mathlib.Core.Option.{Option, none, some}
use mathlib.Core.Path.{◌∙◌, ◌≡◌, ap, refl, subst, sym}
use Prim.Native.Nat.{ℕ, zero, suc, ◌+◌, ◌-◌, ◌*◌, ◌<◌, ◌≤◌}
use native.Mathlib.Omega.{arith}
use lib.Dec.{eqb, leb, ltb}
use lib.ListN.{get_or, length, length-set, set}
use lib.Seq.{get_or-set_other, get_or-set_same}
use Rattle.limits.specs.Limits.{max_definitions}
use Rattle.theory.specs.Lists.{find, numbers_from, or_else}
use Rattle.context.specs.Lookup.{as_code, code_under, stands_under}
use Rattle.context.specs.Entries.{word_count}
use Rattle.store.specs.Store.{via_at}
use Rattle.store.specs.declared.Facts.{Facts}
use Rattle.std.specs.Prelude.{Option as Answer, Some, None}
use Rattle.context.proofs.Parts.{past, up-end, up_turn}
use Rattle.tables.specs.Tables.{nexts_from, table_bytes, tables_in}
use Rattle.tables.proofs.Parts.{next-in, nexts-length}
use Rattle.tables.specs.Brought.{Nexted, Represented, Rowed, first_from, next_bytes, next_in, row_at, rows_from, told_by}

-- searches among numbers
module _ (t : ℕ → Bool) where
  none_passes : (n i : ℕ) → ((g : ℕ) → i ≤ g → g < i + n → t g ≡ false) → find t (numbers_from i n) ≡ none
  none_passes zero i h = refl
  none_passes (suc n) i h = rw (h i (omega arith) (omega arith)) (none_passes n (suc i) (λ g (p : suc i ≤ g) (q : g < suc i + n). h g (omega arith) (omega arith)))

  -- what is found passes, and nothing before it does
  pub record First (i n g : ℕ) : Type 0 where
    pub low : i ≤ g
    pub high : g < i + n
    pub passes : t g ≡ true
    pub before : (k : ℕ) → i ≤ k → k < g → t k ≡ false

  found_first : (n i g : ℕ) → find t (numbers_from i n) ≡ some g → First i n g
  found_first zero i g e = absurd (let z : ◌≡◌ {A = ℕ} 0 1 = cc in omega arith)
  found_first (suc n) i g e = go (t i) refl e (λ q. found_first n (suc i) g q)
    where
      go : (b : Bool) → t i ≡ b → cond b (some i) (find t (numbers_from (suc i) n)) ≡ some g → (find t (numbers_from (suc i) n) ≡ some g → First (suc i) n g)
          → First i (suc n) g
      go true p q later = let z : i ≡ g = cc in record {
        low = omega arith;
        high = omega arith;
        passes = ap t (sym z) ∙ p;
        before = λ k (l : i ≤ k) (h : k < g). absurd (omega arith);
      }
      go false p q later = let f = later q in record {
        low = omega (arith, f.low);
        high = omega (arith, f.high);
        passes = f.passes;
        before = λ k l h. this k l h f.before (eqb k i) refl;
      }
        where
          this : (k : ℕ) → i ≤ k → k < g → ((k : ℕ) → suc i ≤ k → k < g → t k ≡ false) → (b : Bool) → eqb k i ≡ b → t k ≡ false
          this k l h b true c = let z : k ≡ i = eqb-true k i c in ap t z ∙ p
          this k l h b false c = let z : k ≡ i → ⊥ = eqb-false k i c in b k (omega arith) h

  none_found : (n i : ℕ) → find t (numbers_from i n) ≡ none → (g : ℕ) → i ≤ g → g < i + n → t g ≡ false
  none_found zero i e g l h = absurd (omega arith)
  none_found (suc n) i e g l h = go (t i) refl e (λ q. none_found n (suc i) q)
    where
      go : (b : Bool) → t i ≡ b → cond b (some i) (find t (numbers_from (suc i) n)) ≡ none
          → (find t (numbers_from (suc i) n) ≡ none → (g : ℕ) → suc i ≤ g → g < suc i + n → t g ≡ false) → t g ≡ false
      go true p q later = absurd (let z : ◌≡◌ {A = ℕ} 0 1 = cc in omega arith)
      go false p q later = this (eqb g i) refl
        where
          this : (b : Bool) → eqb g i ≡ b → t g ≡ false
          this true c = let z : g ≡ i = eqb-true g i c in ap t z ∙ p
          this false c = let z : g ≡ i → ⊥ = eqb-false g i c in later q g (omega arith) (omega arith)

  -- a number that passes, with none before it, is found
  is_found : (n i g : ℕ) → i ≤ g → g < i + n → t g ≡ true → ((k : ℕ) → i ≤ k → k < g → t k ≡ false) → find t (numbers_from i n) ≡ some g
  is_found zero i g l h p b = absurd (omega arith)
  is_found (suc n) i g l h p b = go (eqb i g) refl (λ q. is_found n (suc i) g q (omega arith) p (λ k (x : suc i ≤ k) (y : k < g). b k (omega arith) y))
    where
      go : (c : Bool) → eqb i g ≡ c → (suc i ≤ g → find t (numbers_from (suc i) n) ≡ some g) → cond (t i) (some i) (find t (numbers_from (suc i) n)) ≡ some g
      go true e later = let z : i ≡ g = eqb-true i g e in rw (ap t z ∙ p) (ap some z)
      go false e later = let z : i ≡ g → ⊥ = eqb-false i g e in rw (b i (omega arith) (omega arith)) (later (omega arith))

abbrev named : List ℕ → ℕ → ℕ → Bool
named names f g = eqb f (get_or names g 0)

-- the first of a name from one number on, by that from the next on
module _ (names : List ℕ) (f s : ℕ) where
  first-turn : s < max_definitions → first_from names f s ≡ cond (named names f s) (some s) (first_from names f (s + 1))
  unfolding first_from
  first-turn h = rw (up_turn s max_definitions h) refl

  first-end : max_definitions ≤ s → first_from names f s ≡ none
  unfolding first_from
  first-end h = rw (up-end s max_definitions h) refl

  first-none : ((g : ℕ) → g < max_definitions → get_or names g 0 ≡ f → ⊥) → first_from names f s ≡ none
  unfolding first_from
  first-none h =
      none_passes (named names f) (max_definitions - s) s
      (λ g (p : s ≤ g) (q : g < s + (max_definitions - s)). ne_eqb f (get_or names g 0) (λ (z : f ≡ get_or names g 0). h g (omega arith) (sym z)))

  -- the first, or 0, is told by its name
  first-told : s < max_definitions → (o : Option ℕ) → first_from names f s ≡ o
      → told_by names f s (or_else 0 o) ≡ o
  unfolding first_from
  first-told h none e = go (leb s 0) refl
    where
      go : (b : Bool) → leb s 0 ≡ b → ◌≡◌ {A = Option ℕ} (cond (b && eqb f (get_or names 0 0)) (some 0) none) none
      go true p =
          let z : s ≤ 0 = leb-true s 0 p in
          rw (none_found (named names f) (max_definitions - s) s e 0 z (omega arith)) refl
      go false p = refl
  first-told h (some g) e =
      let d = found_first (named names f) (max_definitions - s) s g e in
      rw (le-leb s g d.low, d.passes) refl

-- the first loop
pub represented-start : (names t : List ℕ) → length t ≡ next_bytes → Represented names 0 t
represented-start names t h = record { size = h; fits = λ g (l : g < 0). absurd (omega arith); low = λ g (l : g < 0). absurd (omega arith); same = λ g (l : g < 0). absurd (omega arith) }

module _ (names : List ℕ) (n : ℕ) (t : List ℕ) (inv : Represented names n t) where
  pub represented-size : (d : List ℕ) → length d ≡ next_bytes → length t ≡ length d
  represented-size d h = inv.size ∙ sym h

  pub represented-end : max_definitions ≤ n → Represented names max_definitions t
  represented-end h = record {
    size = inv.size;
    fits = λ g (l : g < max_definitions). inv.fits g (omega arith);
    low = λ g (l : g < max_definitions). inv.low g (omega arith);
    same = λ g (l : g < max_definitions). inv.same g (omega arith);
  }

  module _ (f : ℕ) (ef : f ≡ get_or names n 0) (room : f < word_count) where
    pub represented-inside : f < length t
    represented-inside = omega (arith, inv.size)

    pub represented-turn : n < max_definitions → Represented names (n + 1) (set t f n)
    represented-turn h = record {
      size = length-set t f n ∙ inv.size;
      fits = λ g (l : g < n + 1). fits-turn g l (eqb g n) refl;
      low = λ g (l : g < n + 1). (go g l (eqb (get_or names g 0) f) refl).0;
      same = λ g (l : g < n + 1). (go g l (eqb (get_or names g 0) f) refl).1;
    }
      where
        fits-turn : (g : ℕ) → g < n + 1 → (b : Bool) → eqb g n ≡ b → get_or names g 0 < rows_from
        fits-turn g l true p = let z : g ≡ n = eqb-true g n p in rw (z, ← ef) room
        fits-turn g l false p = let z : g ≡ n → ⊥ = eqb-false g n p in inv.fits g (omega arith)

        go : (g : ℕ) → g < n + 1 → (b : Bool) → eqb (get_or names g 0) f ≡ b
            → (get_or (set t f n) (get_or names g 0) 0 < max_definitions) × (get_or names (get_or (set t f n) (get_or names g 0) 0) 0 ≡ get_or names g 0)
        go g l true p =
            let z : get_or names g 0 ≡ f = eqb-true (get_or names g 0) f p in
            let v : get_or (set t f n) (get_or names g 0) 0 ≡ n = ap (λ (i : ℕ). get_or (set t f n) i 0) z ∙ get_or-set_same t f n 0 represented-inside in
            (omega arith, ap (λ (i : ℕ). get_or names i 0) v ∙ sym ef ∙ sym z)
        go g l false p =
            let z : get_or names g 0 ≡ f → ⊥ = eqb-false (get_or names g 0) f p in
            let y : g ≡ n → ⊥ = λ (q : g ≡ n). z (ap (λ (i : ℕ). get_or names i 0) q ∙ sym ef) in
            let v : get_or (set t f n) (get_or names g 0) 0 ≡ get_or t (get_or names g 0) 0 = get_or-set_other t f (get_or names g 0) n 0 z in
            (rw v (inv.low g (omega arith)), rw v (inv.same g (omega arith)))

-- a step of a row
module _ (names : List ℕ) (f s after x : ℕ) (e : x ≡ get_or names s 0) where
  pub nearest-here : f ≡ x → s ≡ cond (eqb f (get_or names s 0)) s after
  nearest-here h = rw (← e, eq-eqb f x h) refl

  pub nearest-after : (f ≡ x → ⊥) → after ≡ cond (eqb f (get_or names s 0)) s after
  nearest-after h = rw (← e, ne_eqb f x h) refl

-- a row: from s on it is right, and the last that was put there is known
pub record RowFrom (names t₀ : List ℕ) (r s found : ℕ) (t : List ℕ) : Type 0 where
  pub rowed : Rowed names t₀ r s t
  pub top : s ≤ max_definitions
  pub last : found ≡ or_else 0 (first_from names (get_or names r 0) s)

pub row-start : (names t : List ℕ) (r : ℕ) → length t ≡ next_bytes → RowFrom names t r max_definitions 0 t
row-start names t r h = record {
  rowed = record { size = h; before = λ i l. refl; at = λ k (l : max_definitions ≤ k) (m : k < max_definitions). absurd (omega arith) };
  top = omega arith;
  last = rw (first-end names (get_or names r 0) max_definitions (omega arith)) refl;
}

module _ (names t₀ : List ℕ) (r s found : ℕ) (t : List ℕ) (inv : RowFrom names t₀ r s found t) where
  pub row-size : (d : List ℕ) → length d ≡ next_bytes → length t ≡ length d
  row-size d h = inv.rowed.size ∙ sym h

  pub row-end : s ≤ 0 → Rowed names t₀ r 0 t
  row-end h = let z : s ≡ 0 = omega arith in subst (λ (k : ℕ). Rowed names t₀ r k t) z inv.rowed

  pub row_inside : (k : ℕ) → 0 < s → k ≡ s - 1 → r < max_definitions → rows_from + max_definitions * r + k < length t
  row_inside k down ek low = omega (arith, inv.rowed.size, inv.top)

  module _ (k f x : ℕ) (down : 0 < s) (ek : k ≡ s - 1) (low : r < max_definitions) (ef : f ≡ get_or names r 0) (ex : x ≡ cond (eqb f (get_or names k 0)) k found) where
    is_last : x ≡ or_else 0 (first_from names (get_or names r 0) k)
    is_last =
        let d : k + 1 ≡ s = omega arith in
        rw (ex, first-turn names (get_or names r 0) k (omega (arith, inv.top)), d, ← ef) (go (eqb f (get_or names k 0)) refl)
      where
        go : (b : Bool) → eqb f (get_or names k 0) ≡ b → cond b k found ≡ or_else 0 (cond b (some k) (first_from names f s))
        go true p = refl
        go false p = inv.last ∙ ap (λ (y : ℕ). or_else 0 (first_from names y s)) (sym ef)

    pub row-turn : RowFrom names t₀ r k x (set t (rows_from + max_definitions * r + k) x)
    row-turn = record {
      rowed = record {
        size = length-set t (rows_from + max_definitions * r + k) x ∙ inv.rowed.size;
        before = λ i (l : i < rows_from + max_definitions * r).
            get_or-set_other t (rows_from + max_definitions * r + k) i x 0 (λ (z : i ≡ rows_from + max_definitions * r + k). omega arith) ∙ inv.rowed.before i l;
        at = λ j l h. go j l h (eqb j k) refl;
      };
      top = omega (arith, inv.top);
      last = is_last;
    }
      where
        go : (j : ℕ) → k ≤ j → j < max_definitions → (b : Bool) → eqb j k ≡ b
            → row_at (set t (rows_from + max_definitions * r + k) x) r j ≡ or_else 0 (first_from names (get_or names r 0) j)
        go j l h true p =
            let z : j ≡ k = eqb-true j k p in
            let w : rows_from + (max_definitions * r + j) ≡ rows_from + max_definitions * r + k = omega arith in
            rw (w, get_or-set_same t (rows_from + max_definitions * r + k) x 0 (row_inside k down ek low), z) is_last
        go j l h false p =
            let z : j ≡ k → ⊥ = eqb-false j k p in
            get_or-set_other t (rows_from + max_definitions * r + k) (rows_from + (max_definitions * r + j)) x 0
            (λ (y : rows_from + (max_definitions * r + j) ≡ rows_from + max_definitions * r + k). z (omega arith)) ∙ inv.rowed.at j (omega arith) h

-- the rows below n are right
pub record RowsFrom (names : List ℕ) (n : ℕ) (t : List ℕ) : Type 0 where
  pub represented : Represented names max_definitions t
  pub top : n ≤ max_definitions
  pub at : (r k : ℕ) → r < n → k < max_definitions → row_at t r k ≡ or_else 0 (first_from names (get_or names r 0) k)

pub rows_start : (names t : List ℕ) → Represented names max_definitions t → RowsFrom names 0 t
rows_start names t h = record { represented = h; top = omega arith; at = λ r k (l : r < 0) m. absurd (omega arith) }

module _ (names : List ℕ) (n : ℕ) (t : List ℕ) (inv : RowsFrom names n t) where
  pub rows-size : length t ≡ next_bytes
  rows-size = inv.represented.size

  pub rows-same-size : (d : List ℕ) → Represented names max_definitions d → length t ≡ length d
  rows-same-size d h = rows-size ∙ sym h.size

  pub rows-turn : (t' : List ℕ) → n < max_definitions → Rowed names t n 0 t' → RowsFrom names (n + 1) t'
  rows-turn t' h d = record {
    represented = record {
      size = d.size;
      fits = inv.represented.fits;
      low = λ g l. rw (kept g l) (inv.represented.low g l);
      same = λ g l. rw (kept g l) (inv.represented.same g l);
    };
    top = omega arith;
    at = λ r k l m. go r k l m (eqb r n) refl;
  }
    where
      kept : (g : ℕ) → g < max_definitions → get_or t' (get_or names g 0) 0 ≡ get_or t (get_or names g 0) 0
      kept g l = d.before (get_or names g 0) (omega (arith, inv.represented.fits g l))

      go : (r k : ℕ) → r < n + 1 → k < max_definitions → (b : Bool) → eqb r n ≡ b → row_at t' r k ≡ or_else 0 (first_from names (get_or names r 0) k)
      go r k l m true p = let z : r ≡ n = eqb-true r n p in rw z (d.at k (omega arith) m)
      go r k l m false p =
          let z : r ≡ n → ⊥ = eqb-false r n p in
          d.before (rows_from + (max_definitions * r + k)) (omega arith) ∙ inv.at r k (omega arith) m

  pub rows_end : max_definitions ≤ n → Nexted names t
  unfolding next_in
  rows_end h = record { at = λ f s lf ls lt. by_name f s ls (eqb f (get_or names (get_or t f 0) 0)) refl }
    where
      -- a name that the table does not tell is no definition's
      untold : (f s : ℕ) → (get_or t f 0 < max_definitions → get_or names (get_or t f 0) 0 ≡ f → ⊥) → first_from names f s ≡ none
      untold f s no' = first-none names f s (λ g l (e : get_or names g 0 ≡ f).
          no' (rw e at (inv.represented.low g l)) (rw e at (inv.represented.same g l)))

      by_row : (f s : ℕ) → s < max_definitions → f ≡ get_or names (get_or t f 0) 0 → (b : Bool) → ltb (get_or t f 0) max_definitions ≡ b
          → told_by names f s (row_at t (get_or t f 0) s) ≡ first_from names f s
      by_row f s ls e true p =
          let a : get_or t f 0 < max_definitions = ltb-true (get_or t f 0) max_definitions p in
          let v : row_at t (get_or t f 0) s ≡ or_else 0 (first_from names f s)
          = inv.at (get_or t f 0) s (omega arith) ls ∙ ap (λ (y : ℕ). or_else 0 (first_from names y s)) (sym e) in
          rw v (first-told names f s ls (first_from names f s) refl)
      by_row f s ls e false p =
          let a : max_definitions ≤ get_or t f 0 = ltb-false (get_or t f 0) max_definitions p in
          let v : 0 ≡ row_at t (get_or t f 0) s = past t (rows_from + (max_definitions * get_or t f 0 + s)) (omega (arith, rows-size)) in
          let w : first_from names f s ≡ none = untold f s (λ (l : get_or t f 0 < max_definitions) _. omega arith) in
          rw (← v, w) (first-told names f s ls none w)

      by_name : (f s : ℕ) → s < max_definitions → (b : Bool) → eqb f (get_or names (get_or t f 0) 0) ≡ b
          → cond (b && (leb s (row_at t (get_or t f 0) s) && eqb f (get_or names (row_at t (get_or t f 0) s) 0))) (some (row_at t (get_or t f 0) s)) none ≡ first_from names f s
      by_name f s ls true p = by_row f s ls (eqb-true f (get_or names (get_or t f 0) 0) p) (ltb (get_or t f 0) max_definitions) refl
      by_name f s ls false p = sym (untold f s (λ _ e. eqb-false f (get_or names (get_or t f 0) 0) p (sym e)))

-- what a row says
module _ (names : List ℕ) (f s g : ℕ) where
  pub told_below : g < s → None ≡ as_code (told_by names f s g)
  unfolding as_code
  told_below h = rw (lt-leb s g h) refl

  module _ (x : ℕ) (low : s ≤ g) (ex : x ≡ get_or names g 0) where
    pub told_here : f ≡ x → Some g ≡ as_code (told_by names f s g)
    unfolding as_code
    told_here h = rw (le-leb s g low, ← ex, eq-eqb f x h) refl

    pub told-other : (f ≡ x → ⊥) → None ≡ as_code (told_by names f s g)
    unfolding as_code
    told-other h = rw (le-leb s g low, ← ex, ne_eqb f x h) refl

-- a lookup by the table
module _ (names t : List ℕ) (f s r x : ℕ) (right : Nexted names (tables_in t).nexts) (hf : f < word_count) (hs : s < max_definitions) (ht : table_bytes ≤ length t)
    (er : r ≡ get_or t (nexts_from + f) 0) (ex : x ≡ get_or names r 0) where
  row_in : r ≡ get_or (tables_in t).nexts f 0
  row_in = er ∙ next-in t f (omega arith)

  pub next-other : (f ≡ x → ⊥) → None ≡ as_code (first_from names f s)
  unfolding next_in as_code
  next-other h = rw (← (right.at f s hf hs (nexts-length t ht)), ← row_in, ← ex, ne_eqb f x h) refl

  pub next-told : (g : ℕ) (y : Answer ℕ) → r < max_definitions → f ≡ x → g ≡ get_or t (nexts_from + (rows_from + (max_definitions * r + s))) 0 → y ≡ as_code (told_by names f s g)
      → y ≡ as_code (first_from names f s)
  unfolding next_in
  next-told g y hr e eg ey =
      let eg' : g ≡ row_at (tables_in t).nexts r s = eg ∙ next-in t (rows_from + (max_definitions * r + s)) (omega arith) in
      ey ∙ ap as_code (rw (← (right.at f s hf hs (nexts-length t ht)), ← row_in, ← ex, ← eg', eq-eqb f x e) refl)

-- the first of a name, against the first of that name under an instance among count of them
and-false : (a b : Bool) → b ≡ false → a && b ≡ false
and-false true b e = e
and-false false b e = refl

module _ (names : List ℕ) (facts : List Facts) (i f first count : ℕ) (room : first + count ≤ max_definitions) where
  none-under : ((k : ℕ) → first ≤ k → k < first + count → eqb f (get_or names k 0) ≡ false) → code_under names facts i f (numbers_from first count) ≡ none
  unfolding code_under
  none-under h = none_passes (stands_under names facts i f) count first (λ k l m. and-false (eqb i (via_at facts k)) (eqb f (get_or names k 0)) (h k l m))

  pub under_none : first_from names f first ≡ none → None ≡ as_code (code_under names facts i f (numbers_from first count))
  unfolding first_from as_code
  under_none e = rw (none-under (λ k l m. none_found (named names f) (max_definitions - first) first e k l (omega arith))) refl

  module _ (g : ℕ) (e : first_from names f first ≡ some g) where
    is-first : First (named names f) first (max_definitions - first) g
    unfolding first_from
    is-first = found_first (named names f) (max_definitions - first) first g e

    pub under-past : first + count ≤ g → None ≡ as_code (code_under names facts i f (numbers_from first count))
    unfolding as_code
    under-past h = rw (none-under (λ k l m. is-first.before k l (omega arith))) refl

    pub under_first : (b : Bool) → g < first + count → b ≡ stands_under names facts i f g → b ≡ true → Some g ≡ as_code (code_under names facts i f (numbers_from first count))
    unfolding as_code code_under
    under_first b h p q =
        rw (is_found (stands_under names facts i f) count first g is-first.low h (sym p ∙ q)
        (λ k l m. and-false (eqb i (via_at facts k)) (eqb f (get_or names k 0)) (is-first.before k l m))) refl

-- what a code that was found says
pub as_some : (o : Option ℕ) (x : Answer ℕ) (g : ℕ) → x ≡ as_code o → x ≡ Some g → o ≡ some g
unfolding as_code
as_some none x g e h = absurd (let z : ◌≡◌ {A = ℕ} 0 1 = cc in omega arith)
as_some (some k) x g e h = let z : k ≡ g = cc in ap some z

pub as_none : (o : Option ℕ) (x : Answer ℕ) → x ≡ as_code o → x ≡ None → o ≡ none
unfolding as_code
as_none none x e h = refl
as_none (some k) x e h = absurd (let z : ◌≡◌ {A = ℕ} 0 1 = cc in omega arith)

pub no-count : (names : List ℕ) (facts : List Facts) (i f first count : ℕ) → count ≡ 0 → None ≡ as_code (code_under names facts i f (numbers_from first count))
unfolding as_code code_under
no-count names facts i f first count e = rw e refl
