-- Each way through the code that reads a field, with the facts that the code has there as premises.
-- Assumes nothing.
use mathlib.Core.Path.{◌≡◌, ap, ◌∙◌}
use mathlib.Core.List.{List}
use Prim.Native.Nat.{ℕ, ◌+◌, ◌-◌, ◌≤◌, ◌<◌}
use native.Mathlib.Omega.{arith}
use lib.ListN.{length, get_or, take, drop}
use borrow.Author.Tests.{lt-ltb, le-ltb, le-leb, lt-leb}
use Rattle.tokens.specs.Token.{number_at}
use Rattle.fields.specs.Payload.{parts_of}
use Rattle.fields.specs.Cursor.{place_of, stays, goes, step_at}
use Rattle.fields.specs.declared.Cursor.{Cursor}
use Rattle.fields.specs.declared.FieldStep.{FieldStep}
use Rattle.fields.specs.declared.Parts.{Parts}
use Rattle.fields.specs.declared.Parts.TheVariants.{Cut, EndOfFile}

module _ (s : List ℕ) (c : Cursor) (r : FieldStep) where
  pub step_end : length s ≤ c.number → r ≡ stays c EndOfFile → r ≡ step_at s c
  unfolding step_at
  step_end l q = rw (le-leb (length s) (place_of c) (omega arith)) q

  pub step-ended : c.number < length s → length s - c.number ≤ c.offset → r ≡ stays c EndOfFile → r ≡ step_at s c
  unfolding step_at
  step-ended l k q = rw (le-leb (length s) (place_of c) (omega arith)) q

  module _ (l : c.number + c.offset < length s) where
    pub step-short : length s - (c.number + c.offset) < 3 → r ≡ stays c Cut → r ≡ step_at s c
    unfolding step_at
    step-short h q = rw (lt-leb (length s) (place_of c) l, lt-ltb (length s - place_of c) 3 h) q

    module _ (h : 3 ≤ length s - (c.number + c.offset)) (n : ℕ) (e : n ≡ number_at s (c.number + c.offset + 1)) where
      pub step-over : length s - (c.number + c.offset + 3) < n → r ≡ stays c Cut → r ≡ step_at s c
      unfolding step_at
      step-over o q =
          rw (lt-leb (length s) (place_of c) l, le-ltb (length s - place_of c) 3 h, ← e, lt-ltb (length s - (place_of c + 3)) n o) q

      pub step-there : (x : Parts) → r ≡ goes c n x
          → x ≡ parts_of (get_or s (c.number + c.offset) 0) (take (c.number + c.offset + 3 + n - (c.number + c.offset + 3)) (drop (c.number + c.offset + 3) s)) (c.number + c.offset + 3)
          → n ≤ length s - (c.number + c.offset + 3) → r ≡ step_at s c
      unfolding step_at
      step-there x q y o =
          let d : place_of c + 3 + n - (place_of c + 3) ≡ n = omega arith in
          rw (lt-leb (length s) (place_of c) l, le-ltb (length s - place_of c) 3 h, ← e, le-ltb (length s - (place_of c + 3)) n o)
          (q ∙ ap (goes c n) (y ∙ rw d))
