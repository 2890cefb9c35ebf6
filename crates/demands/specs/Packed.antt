-- A reply as one number, as the C interface hands it over.
use Rattle.std.specs.Prelude.{Bool, cond, ℕ, ◌+◌, ◌-◌, ◌*◌, ◌/◌, ◌%◌, ◌^◌, eqb, ltb}
use Rattle.rules.specs.Run.{Outcome, refusal, result}

-- a refusal has the highest of 32 bits set, its number above its place of 16 bits
abbrev pub packed_refusal : ℕ → ℕ → ℕ
packed_refusal c p = 2 ^ 31 + 65536 * c + p

-- a number is itself
abbrev pub packed : Outcome ℕ → ℕ
packed (result n) = n
packed (refusal c p) = packed_refusal c p

-- 1 is yes, 0 is no
abbrev pub packed_truth : Outcome Bool → ℕ
packed_truth (result b) = cond b 1 0
packed_truth (refusal c p) = packed_refusal c p

-- a part of the file has its start above its length of 16 bits; a refusal has the highest of 64 bits set
abbrev pub packed_span : Outcome (ℕ × ℕ) → ℕ
packed_span (result part) = 65536 * part.0 + part.1
packed_span (refusal c p) = 2 ^ 63 + 65536 * c + p

-- AND BACK: every reply of the archive is read off its number (proofs/Told).
abbrev pub unpacked : ℕ → Outcome ℕ
unpacked n = cond (ltb n (2 ^ 31)) (result n) (refusal ((n - 2 ^ 31) / 65536) (n % 65536))

abbrev pub unpacked_truth : ℕ → Outcome Bool
unpacked_truth n = cond (ltb n (2 ^ 31)) (result (eqb n 1)) (refusal ((n - 2 ^ 31) / 65536) (n % 65536))

abbrev pub unpacked_span : ℕ → Outcome (ℕ × ℕ)
unpacked_span n = cond (ltb n (2 ^ 63)) (result (n / 65536, n % 65536)) (refusal ((n - 2 ^ 63) / 65536) (n % 65536))
