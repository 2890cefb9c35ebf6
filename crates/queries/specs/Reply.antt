-- What an expansion query leaves. Definitions only.
use Rattle.std.specs.Prelude.{List, ℕ}
use Rattle.rules.specs.Query.{ExpansionAnswer}
use Rattle.rules.specs.Run.{Outcome}

-- an outcome, the lent card memory and the output after it
abbrev pub expansion_answer : Outcome ℕ → List ℕ → List ℕ → ExpansionAnswer
expansion_answer o memory output = record { reply = o; memory = memory; output = output }
