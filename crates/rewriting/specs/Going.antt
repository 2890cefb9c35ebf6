-- Where a rewriting stands: the string begun at the left of the memory and left at its right end is that of a term that means the same, and the
-- part at the left does not call n.
use Rattle.std.specs.Prelude.{Bool, false, true, List, None, Option, Some, ◌++◌, ◌⊎◌, ◌≡◌, ℕ, ◌+◌, ◌-◌, ◌≤◌, ◌<◌, min, eqb, drop, length}
use Rattle.std.proofs.Math.Seq.{paste}
use Rattle.theory.specs.Lists.{any}
use Rattle.theory.specs.Term.{Term}
use Rattle.symbols.specs.Spell.{shape_of, spell}
use Rattle.symbols.specs.Symbol.{Spelt, Symbol, calls, size, wide}
use Rattle.strings.specs.Read.{far, symbol_at, width_of}
use Rattle.unfolding.specs.Sense.{Same, Stands}
use Rattle.rewriting.specs.Rewritten.{Posed, Replaced, Task, Templated}
use Rattle.rewriting.specs.declared.Moved.{Moved}

-- a term that means the same as that of a task and calls nothing new
pub record Kept (x : Task) : Type 0 where
  pub term : Term
  pub same : Same x.sense x.term term
  pub stands : Stands x.sense x.params term
  pub others : (q : ℕ → Bool) → any (calls q) (spell x.sense.shape x.term) ≡ false → any (calls q) (spell x.sense.shape x.text) ≡ false
      → any (calls q) (spell x.sense.shape term) ≡ false
  pub near : far (spell x.sense.shape term) ≡ false
  pub shape : shape_of (spell x.sense.shape term) ≡ shape_of (spell x.sense.shape x.term)

pub record Going (n : ℕ) (x : Task) (a : List ℕ) (q p : ℕ) : Type 0 where
  pub kept : Kept x
  pub gs : List Symbol
  pub hs : List Symbol
  pub split : spell x.sense.shape kept.term ≡ gs ++ hs
  pub clear : any (calls (eqb n)) gs ≡ false
  pub done : Spelt a 0 gs q
  pub left : Spelt a p hs (length a)

-- the string does not fit into so many bytes
pub record Over (x : Task) (room : ℕ) : Type 0 where
  pub kept : Kept x
  pub over : (room < size (spell x.sense.shape kept.term)) ⊎ (wide (spell x.sense.shape kept.term) ≡ true)

-- After one call of n, if the rest begins with it, has been replaced: the rest begins elsewhere, with no call of n.
pub record Cleared (n : ℕ) (template : List ℕ) (tlen : ℕ) (shapes : List ℕ) (q p : ℕ) (before after : List ℕ) (r : Option ℕ) : Type 0 where
  pub long : length after ≡ length before
  pub room : (i : ℕ) → r ≡ Some i → (q ≤ i) × (i < length before)
  pub yes : (i : ℕ) → r ≡ Some i → (x : Task) → Templated n template tlen shapes x → Going n x before q p
      → Going n x after q i × (calls (eqb n) (symbol_at after i) ≡ false)
  pub no : r ≡ None → (x : Task) → Templated n template tlen shapes x → Going n x before q p → Over x (length before)

-- so many bytes written to end at a position, but not below q
pub record Ending (q : ℕ) (filled : List ℕ) (n end : ℕ) (before after : List ℕ) (r : Option ℕ) : Type 0 where
  pub long : length after ≡ length before
  pub yes : (i : ℕ) → r ≡ Some i → (0 < n) × (q + n ≤ min end (length before)) × (i ≡ min end (length before) - n) × (after ≡ paste before i filled n)
  pub no : r ≡ None → (n ≡ 0) ⊎ (min end (length before) < q + n)

-- One symbol, of so many bytes, has gone from p to q.
pub record Carried (q p : ℕ) (before after : List ℕ) (w : ℕ) : Type 0 where
  pub width : w ≡ min (width_of (symbol_at before p)) (length before - p)
  pub some : 1 ≤ w
  pub inside : p + w ≤ length before
  pub moved : after ≡ paste before q (drop p before) w
  pub long : length after ≡ length before

-- one turn
pub record Turned (n : ℕ) (template : List ℕ) (tlen : ℕ) (shapes : List ℕ) (q p : ℕ) (before after : List ℕ) (r : Option Moved) : Type 0 where
  pub long : length after ≡ length before
  pub room : (m : Moved) → r ≡ Some m → (q < m.q) × (m.q ≤ m.p) × (m.p ≤ length before)
  pub yes : (m : Moved) → r ≡ Some m → (x : Task) → Templated n template tlen shapes x → Going n x before q p → Going n x after m.q m.p
  pub no : r ≡ None → (x : Task) → Templated n template tlen shapes x → Going n x before q p → Over x (length before)

-- the string moved to the right end, where it begins at a position
pub record AtRight (before : List ℕ) (len : ℕ) (after : List ℕ) (from : ℕ) : Type 0 where
  pub long : length after ≡ length before
  pub inside : from ≤ length before
  pub going : (n : ℕ) (template : List ℕ) (tlen : ℕ) (shapes : List ℕ) (x : Task) → Posed before len n template tlen shapes x → Going n x after 0 from

-- after some turns: `first` and `work` are the memory before the first
pub record Turning (n : ℕ) (template : List ℕ) (tlen : ℕ) (shapes : List ℕ) (from : ℕ) (first work a filled : List ℕ) (q p : ℕ) : Type 0 where
  pub order : q ≤ p
  pub inside : p ≤ length a
  pub long : length a ≡ length first
  pub room : length filled ≡ length work
  pub going : (x : Task) → Templated n template tlen shapes x → Going n x first 0 from → Going n x a q p

-- the whole of it
pub record Ended (n : ℕ) (template : List ℕ) (tlen : ℕ) (shapes : List ℕ) (from : ℕ) (before after : List ℕ) (r : Option ℕ) : Type 0 where
  pub long : length after ≡ length before
  pub within : (len : ℕ) → r ≡ Some len → len ≤ length before
  pub replaced : (x : Task) → Templated n template tlen shapes x → Going n x before 0 from → Replaced n x after r
