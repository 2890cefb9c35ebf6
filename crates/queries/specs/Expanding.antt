-- "Each call checks the file afresh and fills the lent card memory": the reply, the memory and the output of an expansion.
use Rattle.std.specs.Prelude.{Result, List, ◌≡◌, ℕ}
use Rattle.rules.specs.Query.{expansion_query}
use Rattle.refusals.specs.Outcomes.{outcome_of}
use Rattle.refusals.specs.declared.Refusal.{Refusal}
use Rattle.queries.specs.Reply.{expansion_answer}

-- the reply, the lent memory and the output after it are the rules'
abbrev pub Expanding : List ℕ → List ℕ → ℕ → ℕ → List ℕ → List ℕ → Result ℕ Refusal → List ℕ → List ℕ → Type 0
Expanding file before m n expr out r after out' = expansion_answer (outcome_of r) after out' ≡ expansion_query file before m n expr out
