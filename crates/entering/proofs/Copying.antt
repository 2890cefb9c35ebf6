-- `replacing`: the forms that the words copied are.
use mathlib.Core.Path.{◌≡◌, ap, ◌∙◌}
use mathlib.Core.List.{List, ◌++◌}
use Prim.Native.Nat.{ℕ, ◌+◌, ◌-◌}
use native.Mathlib.Omega.{arith}
use lib.ListN.{get_or, get_or-append, length, length-append, length-drop, length-take, take}
use lib.Seq.{get_or-take, length-take-le}
use borrow.Rule.Slice.PartMut.{post_of, put_mid}
use Rattle.limits.specs.Limits.{max_declarations, max_definitions}
use Rattle.levels.specs.Tables.{table_words}
use Rattle.std.proofs.lemmas.List.{get_or-append_right}
use Rattle.entering.specs.Replaced.{Replaced}
use Rattle.entering.specs.Substitutes.{next_words}

pub replaced : (next before words : List ℕ) → length before ≡ table_words → length next ≡ next_words → words ≡ next
    → Replaced next before (put_mid max_definitions max_declarations before words)
replaced next before words l n e =
    rw e record {
      size = simp (length-append, length-take, length-drop) (omega arith);
      definitions = λ g h.
          get_or-append (take max_definitions before) (next ++ rest) 0 g (omega (arith, first)) ∙ get_or-take max_definitions before g 0 h;
      declarations = λ d h.
          let z : max_definitions + d - max_definitions ≡ d = omega arith in
          get_or-append_right (take max_definitions before) (next ++ rest) max_definitions (max_definitions + d) 0 first (omega arith)
          ∙ ap (λ (i : ℕ). get_or (next ++ rest) i 0) z ∙ get_or-append next rest 0 d (omega arith);
    }
  where
    rest : List ℕ
    rest = post_of max_definitions max_declarations before

    first : length (take max_definitions before) ≡ max_definitions
    first = length-take-le max_definitions before (omega arith)
