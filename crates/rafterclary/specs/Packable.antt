-- What every reply keeps to, so that it can be packed into a number: a bound on the result, and on the place of a refusal.
use Rattle.std.specs.Prelude.{ℕ, ◌+◌, ◌≤◌}
use Rattle.limits.specs.Limits.{expansion_bytes, file_bytes}
use Rattle.rules.specs.Run.{Outcome, refusal, result}

abbrev pub Packable : {A : Type 0} → (A → Type 0) → Outcome A → Type 0
Packable P (result a) = P a
Packable P (refusal c p) = p ≤ file_bytes

abbrev pub InFile : ℕ × ℕ → Type 0
InFile part = part.0 + part.1 ≤ file_bytes

abbrev pub FewBytes : ℕ → Type 0
FewBytes n = n ≤ expansion_bytes
