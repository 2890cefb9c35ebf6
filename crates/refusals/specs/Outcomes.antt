-- "Where an answer is an enum, a definition sets out this paper's number and values for each of its cases": every operation's answer is a value or
-- a refusal. Definitions only.
use Rattle.std.specs.Prelude.{Result, Ok, Err, ℕ}
use Rattle.rules.specs.Run.{Outcome, refusal, result}
use Rattle.refusals.specs.declared.Refusal.{Refusal}

-- "A check replies with the number of definitions"; a level query with the level, "0 to 4; 4 is an ordinary reply"; "whether two definitions are
-- alike"; a body "handed back as the part of the file that holds it": where it begins, and its length; an expansion "with its length". Or a
-- refusal's number and place.
abbrev pub outcome_of : {A : Type 0} → Result A Refusal → Outcome A
outcome_of (Ok x) = result x
outcome_of (Err r) = refusal r.cause r.place

-- that refusal
abbrev pub refused : {A : Type 0} → ℕ → ℕ → Result A Refusal
refused c p = Err (record { cause = c; place = p })
