use mathlib.Core.Path.{◌≡◌}
use mathlib.Core.List.{List}
use Prim.Native.Nat.{ℕ, ◌+◌, ◌≤◌}
use native.Mathlib.Omega.{arith}
use lib.ListN.{length, get_or-eq_default}
use Rattle.tokens.specs.Token.{number_at}
use Rattle.tokens.proofs.number_at.Goals as goal

past-zero : (s : List ℕ) (i : ℕ) → length s ≤ i → 0 ≡ number_at s i
past-zero s i h = rw (get_or-eq_default s 0 h, get_or-eq_default s 0 {n = i + 1} (omega arith))

pub returns-else-i-s : goal.returns-else-i-s
returns-else-i-s c = search past-zero
