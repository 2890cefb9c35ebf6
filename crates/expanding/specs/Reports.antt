-- The reply of an expansion and its output.
use Rattle.std.specs.Prelude.{Result, Ok, Err, List, ◌≡◌, ℕ, length}
use Rattle.rules.specs.Run.{Outcome, overwrite, refusal, result}
use Rattle.refusals.specs.declared.Refusal.{Refusal}

-- The rules' outcome is the bytes of an expansion, whose length is replied and which are written; or a refusal, at which nothing is.
abbrev pub Reports : Outcome (List ℕ) → Result ℕ Refusal → List ℕ → List ℕ → Type 0
Reports x (Ok n) before after = (bytes : List ℕ) × (x ≡ result bytes) × (n ≡ length bytes) × (after ≡ overwrite bytes before)
Reports x (Err r) before after = (x ≡ refusal r.cause r.place) × (after ≡ before)
