-- The answer to a check: its reply, and the lent card memory after it. Definitions only.
use Rattle.std.specs.Prelude.{List, Result, ℕ}
use Rattle.rules.specs.Run.{Answer, Outcome}
use Rattle.refusals.specs.Outcomes.{outcome_of}
use Rattle.refusals.specs.declared.Refusal.{Refusal}

-- an outcome, and the lent card memory after it
abbrev pub answer : {A : Type 0} → Outcome A → List ℕ → Answer A
answer o memory = record { reply = o; memory = memory }

abbrev pub answer_of : Result ℕ Refusal → List ℕ → Answer ℕ
answer_of r memory = answer (outcome_of r) memory
