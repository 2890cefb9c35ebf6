-- Both tables filled, one after the other; and no tables.
use borrow.Author.Tests.{ltb-false, ltb-true}
use mathlib.Core.Bool.{Bool, false, true}
use mathlib.Core.List.{List, ◌++◌, append-nil}
use mathlib.Core.Path.{◌∙◌, ◌≡◌, ap, refl}
use Prim.Native.Nat.{ℕ, ◌-◌, ◌^◌, ◌<◌, ◌≤◌}
use native.Mathlib.Omega.{arith}
use lib.Dec.{ltb}
use lib.ListN.{get_or-eq_default, drop, drop_of_length-le, get_or, length, length-append, length-drop, length-take, take}
use lib.Seq.{drop_at, get_or-take, length-take-le, take_all, take_at}
use borrow.Rule.Slice.PartMut.{put_mid}
use Rattle.store.specs.declared.Store.{Store}
use Rattle.tables.specs.Brought.{Nexted, next_bytes}
use Rattle.tables.specs.Names.{Tabled, Zeroed, name_bytes}
use Rattle.tables.specs.Serves.{Serves}
use Rattle.tables.specs.Tables.{nexts_from, region, table_bytes, tables_in}

module _ (t : List ℕ) where
  pub first-length : length t ≡ table_bytes → length (take nexts_from t) ≡ nexts_from
  first-length h = length-take-le nexts_from t (omega arith)

  pub first-zeroed : Zeroed t → Zeroed (take nexts_from t)
  first-zeroed z = record { at = λ n. go n (ltb n nexts_from) refl }
    where
      go : (n : ℕ) → (b : Bool) → ltb n nexts_from ≡ b → get_or (take nexts_from t) n 0 ≡ 0
      go n true p = get_or-take nexts_from t n 0 (ltb-true n nexts_from p) ∙ z.at n
      go n false p =
          let h : nexts_from ≤ n = ltb-false n nexts_from p in
          get_or-eq_default (take nexts_from t) 0 (rw length-take (omega arith))

-- a first table and then another are what the bytes hold
module _ (a b : List ℕ) (ha : length a ≡ name_bytes) (hb : length b ≡ next_bytes) where
  first-in : (tables_in (a ++ b)).places ≡ a
  unfolding tables_in region
  first-in = take_at a b name_bytes ha

  second-in : (tables_in (a ++ b)).nexts ≡ b
  unfolding tables_in region
  second-in = ap (take next_bytes) (drop_at a b nexts_from ha) ∙ take_all next_bytes b (omega arith)

  pub both-serve : (v : Store) (from end : ℕ) → Tabled v.names v.contexts from end a → Nexted v.names b → from < 2 ^ 32 → Serves v (a ++ b) from end
  both-serve v from end p q h = record {
    places = rw first-in p;
    brought = rw second-in q;
    low = h;
  }

-- the second table put where the first was put before
module _ (t a b : List ℕ) (size : length t ≡ table_bytes) (ha : length a ≡ length (take nexts_from t))
    (hb : length b ≡ length (take (length (a ++ drop nexts_from t) - nexts_from) (drop nexts_from (a ++ drop nexts_from t)))) where
  a-long : length a ≡ nexts_from
  a-long = ha ∙ first-length t size

  whole : length (a ++ drop nexts_from t) ≡ table_bytes
  whole = rw (length-append, length-drop) (omega (arith, a-long))

  b-long : length b ≡ next_bytes
  b-long = hb ∙ rw (length-take, length-drop) (omega (arith, whole))

  put : put_mid nexts_from (length (a ++ drop nexts_from t) - nexts_from) (a ++ drop nexts_from t) b ≡ a ++ b
  put =
      rw (take_at a (drop nexts_from t) nexts_from a-long)
      (ap (λ (l : List ℕ). a ++ (b ++ l)) (drop_of_length-le (drop nexts_from (a ++ drop nexts_from t)) {i = length (a ++ drop nexts_from t) - nexts_from} (rw length-drop (omega arith)))
      ∙ ap (λ (l : List ℕ). a ++ l) (append-nil b))

  pub filled-serves : (v : Store) (from end : ℕ) → Tabled v.names v.contexts from end a → Nexted v.names b → from < 2 ^ 32
      → Serves v (put_mid nexts_from (length (a ++ drop nexts_from t) - nexts_from) (a ++ drop nexts_from t) b) from end
  filled-serves v from end p q h = rw put (both-serve a b a-long b-long v from end p q h)

-- no bytes
pub none-serve : (v : Store) (t : List ℕ) (from end : ℕ) → length t ≡ 0 → from < 2 ^ 32 → Serves v t from end
unfolding tables_in region
none-serve v t from end e h = record {
  places = record { at = λ n l. absurd (omega (arith, short 0 name_bytes)) };
  brought = record { at = λ f s lf ls lt. absurd (omega (arith, short nexts_from next_bytes)) };
  low = h;
}
  where
    short : (a n : ℕ) → length (take n (drop a t)) ≤ 0
    short a n = rw (length-take, length-drop) (omega arith)
