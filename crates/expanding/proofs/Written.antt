-- The output: "expansion longer than the output or 65,535 bytes", or its bytes.
use Rattle.std.specs.Prelude.{Ok}
use mathlib.Core.Bool.{Bool, ◌||◌, false, true}
use mathlib.Core.List.{List, ◌++◌}
use mathlib.Core.Path.{◌∙◌, ◌≡◌, ap, refl}
use borrow.Author.Tests.{le-ltb, lt-ltb}
use lib.Dec.{ltb}
use lib.ListN.{drop, length}
use lib.Seq.{sets, sets-eq}
use native.Mathlib.Nat.{zero-add}
use native.Mathlib.Omega.{arith}
use Prim.Native.Nat.{◌<◌, ◌≤◌, ℕ}
use Rattle.limits.specs.Limits.{expansion_bytes}
use Rattle.rules.specs.Query.{unless_longer}
use Rattle.rules.specs.Run.{refusal}
use Rattle.expanding.specs.Reports.{Reports}
use Rattle.refusals.specs.Outcomes.{refused}

or_right : (a : Bool) → (a || true) ≡ true
or_right true = refl
or_right false = refl

module _ (bytes out : List ℕ) where
  -- 18
  pub over-bytes : expansion_bytes < length bytes → unless_longer bytes (length out) ≡ refusal 18 0
  over-bytes h = rw (lt-ltb expansion_bytes (length bytes) h) refl

  pub over-room : length out < length bytes → unless_longer bytes (length out) ≡ refusal 18 0
  over-room h = rw (lt-ltb (length out) (length bytes) h, or_right (ltb expansion_bytes (length bytes))) refl

  module _ (n : ℕ) (is-n : n ≡ length bytes) where
    pub out-long : expansion_bytes < n → Reports (unless_longer bytes (length out)) (refused 18 0) out out
    out-long h = (over-bytes (omega arith), refl)

    pub out-short : length out < n → Reports (unless_longer bytes (length out)) (refused 18 0) out out
    out-short h = (over-room (omega arith), refl)

    pub out_written : n ≤ expansion_bytes → n ≤ length out → (after : List ℕ) → after ≡ sets out 0 bytes → Reports (unless_longer bytes (length out)) (Ok n) out after
    out_written h k after e = (
      bytes,
      rw (le-ltb expansion_bytes (length bytes) (omega arith), le-ltb (length out) (length bytes) (omega arith)) refl,
      is-n,
      e ∙ sets-eq bytes out 0 (omega arith) ∙ ap (λ (x : ℕ). bytes ++ drop x out) (zero-add (length bytes)),
    )
