-- What is read off a number, as an outcome of the paper.
use Rattle.std.specs.Prelude.{Result, Ok, Err, Option, Some, List, ℕ, codes}
use Rattle.std.specs.Fmt.{option_append}
use Rattle.rules.specs.Run.{Outcome, refusal, result}
use Rattle.unpacking.specs.declared.Refusal.{Refusal}

abbrev pub outcome_of : {A : Type 0} → Result A (Refusal ℕ) → Outcome A
outcome_of (Ok x) = result x
outcome_of (Err r) = refusal r.cause r.place

-- what `{}` writes of a refusal, where it is known what it writes of its numbers
abbrev pub refusal_text : {N : Type 0} → (N → Option (List ℕ)) → Refusal N → Option (List ℕ)
refusal_text output r = option_append (Some (codes "refused ")) (option_append (output r.cause) (option_append (Some (codes " ")) (output r.place)))
