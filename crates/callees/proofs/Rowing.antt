-- The tables of numbers of the levels, one after another in one array.
use mathlib.Core.List.{List, ◌++◌}
use mathlib.Core.Path.{◌∙◌, ◌≡◌, ap, sym}
use lib.ListN.{drop, length, length-drop, take, take-append-drop}
use lib.Seq.{drop-append-le, drop_at, length-take-le, take-append-le, take_at}
use native.Mathlib.Omega.{arith}
use Prim.Native.Nat.{◌+◌, ◌-◌, ◌*◌, ◌<◌, ◌≤◌, ℕ}
use Rattle.limits.specs.Limits.{max_definitions}
use Rattle.chains.specs.Walk.{NumbersEntered}
use Rattle.unfolding.specs.CalleeTerm.{row_of}
use Rattle.callees.specs.Walk.{RowEntered, RowPut}
use Rattle.store.specs.declared.Facts.{Facts}

-- the row that lies between two positions
pub row-between : (xs : List ℕ) (l : ℕ) → take (max_definitions * l + max_definitions - max_definitions * l) (drop (max_definitions * l) xs) ≡ row_of xs l
row-between xs l =
    let e : max_definitions * l + max_definitions - max_definitions * l ≡ max_definitions = omega arith in
    ap (λ (n : ℕ). take n (drop (max_definitions * l) xs)) e

pub row_put : (xs row zs : List ℕ) (l : ℕ) → length row ≡ max_definitions → max_definitions * l ≤ length xs
    → RowPut xs l row (take (max_definitions * l) xs ++ (row ++ zs))
row_put xs row zs l r h = record { here = here; kept = kept }
  where
    size : length (take (max_definitions * l) xs) ≡ max_definitions * l
    size = length-take-le (max_definitions * l) xs h

    here : row_of (take (max_definitions * l) xs ++ (row ++ zs)) l ≡ row
    here =
        ap (λ (y : List ℕ). take max_definitions y) (drop_at (take (max_definitions * l) xs) (row ++ zs) (max_definitions * l) size) ∙ take_at row zs max_definitions r

    front : (j : ℕ) → j < l → (q : List ℕ) → row_of (take (max_definitions * l) xs ++ q) j ≡ take max_definitions (drop (max_definitions * j) (take (max_definitions * l) xs))
    front j i q =
        ap (λ (y : List ℕ). take max_definitions y) (drop-append-le (max_definitions * j) (take (max_definitions * l) xs) q (omega (arith, size)))
        ∙ take-append-le max_definitions (drop (max_definitions * j) (take (max_definitions * l) xs)) q
        (omega (arith, size, length-drop (max_definitions * j) (take (max_definitions * l) xs)))

    kept : (j : ℕ) → j < l → row_of (take (max_definitions * l) xs ++ (row ++ zs)) j ≡ row_of xs j
    kept j i =
        front j i (row ++ zs) ∙ sym (front j i (drop (max_definitions * l) xs)) ∙ ap (λ (y : List ℕ). row_of y j) (take-append-drop (max_definitions * l) xs)

-- the same of a row that is a copy
pub row_laid : (xs row copy zs : List ℕ) (l : ℕ) → copy ≡ row → length row ≡ max_definitions → max_definitions * l ≤ length xs
    → RowPut xs l row (take (max_definitions * l) xs ++ (copy ++ zs))
row_laid xs row copy zs l e r h = rw e (row_put xs row zs l r h)

-- a row read, entered and put at the next level
pub row-entered : (facts : List Facts) (orders heads : List ℕ) (o l : ℕ) (numbers numbers' row row' : List ℕ) → row ≡ row_of numbers l
    → NumbersEntered facts orders heads o row row' → RowPut numbers (l + 1) row' numbers' → RowEntered facts orders heads o l numbers numbers'
row-entered facts orders heads o l numbers numbers' row row' e x p =
    record {
      entered =
          let y : NumbersEntered facts orders heads o (row_of numbers l) row' = rw (sym e) x in
          rw p.here y;
      kept = p.kept;
    }
