-- The words of a call in the table.
use mathlib.Core.Bool.{Bool, ◌&&◌, cond, false, true}
use mathlib.Core.List.{List}
use mathlib.Core.Path.{◌≡◌, ◌∙◌, ap, refl}
use borrow.Author.Tests.{le-ltb, lt-ltb}
use Rattle.std.specs.Prelude.{None, Some}
use lib.Dec.{ltb}
use lib.ListN.{length}
use lib.Seq.{length-sets, sets}
use native.Mathlib.Nat.{mul-le-mul_right}
use native.Mathlib.Omega.{arith}
use Prim.Native.Nat.{ℕ, ◌+◌, ◌-◌, ◌*◌, ◌/◌, ◌%◌, ◌^◌, ◌≤◌, ◌<◌}
use Rattle.strings.specs.Read.{shape_in, width_of}
use Rattle.symbols.specs.Pieces.{left_after}
use Rattle.symbols.specs.Spell.{max_params}
use Rattle.symbols.specs.Symbol.{Symbol, after}
use Rattle.cells.proofs.Words.{cell-inside}
use Rattle.cells.specs.Table.{Sized}
use Rattle.cells.specs.Words.{four, word_at}
use Rattle.cells.specs.declared.Place.{Place}
use Rattle.cells.specs.declared.Layout.{Layout}
use Rattle.call_table.specs.Walking.{Notes, hopped, stepped}
use Rattle.call_table.specs.declared.Walk.{Walk}

pub cell-small : (stride r i : ℕ) → stride ≤ max_params + 3 → r ≤ 16383 → i ≤ max_params + 3 → r * stride + i < 2 ^ 19
cell-small stride r i s h k = let m : r * stride ≤ 16383 * stride = mul-le-mul_right stride h in omega arith

pub row_small : (stride r : ℕ) → stride ≤ max_params + 3 → r ≤ 16383 → r * stride < 2 ^ 19
row_small stride r s h = let m : r * stride ≤ 16383 * stride = mul-le-mul_right stride h in omega arith

pub first-inside : (l : Layout) (bytes r j : ℕ) → Sized l bytes → r < l.room → j ≡ r * l.stride + 0 → 4 * j + 3 < bytes
first-inside l bytes r j z h e = omega (arith, cell-inside l bytes r 0 z h (omega (arith, z.wide)))

pub end-inside : (l : Layout) (bytes known r i j : ℕ) → Sized l bytes → known ≤ l.room → r < known → i < l.places → j ≡ r * l.stride + (i + 1) → 4 * j + 3 < bytes
end-inside l bytes known r i j z f h k e = omega (arith, cell-inside l bytes r (i + 1) z (omega arith) (omega (arith, z.wide)))

-- what `note` does
module _ (l : Layout) (rank at : ℕ) (called : Bool) (before : List ℕ) where
  pub notes-one : (after : List ℕ) → called ≡ true → rank < l.room → (j : ℕ) → j ≡ rank * l.stride + 0
      → after ≡ sets before (4 * j) (four ((at + 2) * 16384 + rank + 1)) → Notes l rank at called before after (rank + 1)
  notes-one after e k j i p =
      record {
        long = ap length p ∙ length-sets before (4 * j) (four ((at + 2) * 16384 + rank + 1));
        ranks = rw (e, lt-ltb rank l.room k);
        word = rw (e, lt-ltb rank l.room k, ← i) p;
      }

  pub notes-full : called ≡ true → l.room ≤ rank → Notes l rank at called before before rank
  notes-full e k = record { long = refl; ranks = rw (e, le-ltb rank l.room k); word = rw (e, le-ltb rank l.room k) }

  pub notes-none : called ≡ false → Notes l rank at called before before rank
  notes-none e = record { long = refl; ranks = rw e; word = rw e }

-- what `hops` says
pub hops-wanted : (called b : Bool) (rank known : ℕ) → called ≡ true → rank < known → b ≡ (called && (ltb rank known && b))
hops-wanted called b rank known e l = rw (e, lt-ltb rank known l)

pub hops-unknown : (called b : Bool) (rank known : ℕ) → called ≡ true → known ≤ rank → false ≡ (called && (ltb rank known && b))
hops-unknown called b rank known e l = rw (e, le-ltb rank known l)

-- what `hop` gives
module _ (s : List ℕ) (i j v : ℕ) (w : Walk) (p : Place) (e : j ≡ i) (f : v ≡ word_at s j) (g : p.at ≡ v / 16384) (h : p.rank ≡ v % 16384) where
  there : p.at ≡ word_at s i / 16384
  there = rw (g, f, e) refl

  pub hop-is : w.at < p.at → Some (record { at = p.at; rank = p.rank; left = w.left - 1; c = w.c }) ≡ hopped (word_at s i) w
  hop-is l = rw (lt-ltb w.at (word_at s i / 16384) (omega (arith, there)), g, h, f, e) refl

  pub hop-astray : p.at ≤ w.at → None ≡ hopped (word_at s i) w
  hop-astray l = rw (le-ltb w.at (word_at s i / 16384) (omega (arith, there)))

-- what `step` gives
pub step_is : (shapes : List ℕ) (known : ℕ) (called : Bool) (g : Symbol) (w : Walk) (wd rank left c : ℕ) → wd ≡ width_of g
    → rank ≡ cond called (cond (ltb w.rank known) (w.rank + 1) w.rank) w.rank → left ≡ left_after (shape_in shapes) w.left g → c ≡ after w.c g
    → record { at = w.at + wd; rank = rank; left = left; c = c } ≡ stepped shapes known called g w
step_is shapes known called g w wd rank left c e f h k = rw (e, f, h, k) refl
