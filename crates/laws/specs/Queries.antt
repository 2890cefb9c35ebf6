-- Which expressions a query takes, and why it is refused; s is what the fields of an accepted file add, `fields` how many they are.
-- "The file's causes come first, then 17, then the expression's, then 18."
use Rattle.std.specs.Prelude.{false, List, [], ◌∷◌, ◌⊎◌, ◌≡◌, length, ◌<◌, ◌≤◌, ℕ}
use Rattle.std.proofs.Math.Option.{none, some}
use Rattle.laws.specs.Refused.{JudgedFirst}
use Rattle.limits.specs.Limits.{expansion_bytes}
use Rattle.rules.specs.Expression.{Expression, expression, over_arity, over_limit}
use Rattle.rules.specs.Judge.{miscounted, unknown}
use Rattle.rules.specs.Query.{expansion_bytes_of, query_causes}
use Rattle.rules.specs.State.{Module, State, module_named, resolve}
use Rattle.theory.specs.Lists.{All}
use Rattle.theory.specs.Term.{Term}

-- "An expression belongs to demand 3 when causes 3, 5, 9 and 10 find nothing in it, dropped arguments included, read at the end of the module in
-- question": the bytes, over n parameters, at the end of module m. The causes go through the expression as it is written, before anything is replaced.
pub record BelongsIn (s : State) (m n : ℕ) (bytes : List ℕ) : Type 0 where
  pub place : Module
  pub ended : module_named s m ≡ some place
  pub expr : Expression
  pub clear₃ : expression.read bytes ≡ some expr
  pub clear₅ : (over_arity n ≡ false) × (over_limit expr ≡ false)
  pub clear₉ : unknown s place.context n expr ≡ false
  pub clear₁₀ : miscounted s place.context expr ≡ false

-- the expression with its names found
abbrev pub term_in : (s : State) (m n : ℕ) (bytes : List ℕ) → BelongsIn s m n bytes → Term
term_in s m n bytes b = resolve s b.place.context b.expr

-- the numbers of its causes, in the order that they are judged
abbrev pub expression_numbers : List ℕ
expression_numbers = 3 ∷ 5 ∷ 9 ∷ 10 ∷ []

-- Why the expression of a query, read at the end of module M over n parameters, is refused with c. "A query's expression is judged like a THEOREM field
-- with its parameters, without cause 12 and of any length; a given level above 4 is 3", a ninth parameter 5.
pub data ExpressionRefused (s : State) (M : Module) (n : ℕ) (levels bytes : List ℕ) (c : ℕ) : Type 0 where
  unreadable : expression.read bytes ≡ none → c ≡ 3 → ExpressionRefused s M n levels bytes c
  by_cause : (e : Expression) → expression.read bytes ≡ some e → JudgedFirst expression_numbers (query_causes s M levels n e) c → ExpressionRefused s M n levels bytes c

-- 17, "no such module or definition": no module of that name is ended;
abbrev pub NoModule : State → ℕ → Type 0
NoModule s m = All (λ (M : Module). ¬ (m ≡ M.name)) s.ended

-- a definition is given by its number, counted from 0
abbrev pub NoDefinition : State → ℕ → Type 0
NoDefinition s g = length s.definitions ≤ g

-- Why a query is refused for its module or its expression, with c at p.
-- "The place is [..] for a query's expression, its parameters and their levels [..] the number of fields; for 1, 2, 17 and 18 it is 0."
pub data TermRefused (s : State) (fields m n : ℕ) (levels bytes : List ℕ) (c p : ℕ) : Type 0 where
  no-module : NoModule s m → c ≡ 17 → p ≡ 0 → TermRefused s fields m n levels bytes c p
  at_fault : (M : Module) → module_named s m ≡ some M → ExpressionRefused s M n levels bytes c → p ≡ fields → TermRefused s fields m n levels bytes c p

-- LEVEL: over 0 to 8 parameters, "a level from 0 to 4 being given for each"
abbrev pub LevelRefused : ℕ → List ℕ → List ℕ → State → ℕ → ℕ → ℕ → Type 0
LevelRefused m levels bytes s fields c p = TermRefused s fields m (length levels) levels bytes c p

-- EXPANSION. 18, "expansion longer than the output or 65,535 bytes": the true expansion's bytes are
pub record TooLong (s : State) (m n room : ℕ) (bytes : List ℕ) (c p : ℕ) : Type 0 where
  pub belongs : BelongsIn s m n bytes
  pub longer : (expansion_bytes < length (expansion_bytes_of s (term_in s m n bytes belongs))) ⊎ (room < length (expansion_bytes_of s (term_in s m n bytes belongs)))
  pub number : c ≡ 18
  pub place : p ≡ 0

abbrev pub ExpansionRefused : ℕ → ℕ → List ℕ → ℕ → State → ℕ → ℕ → ℕ → Type 0
ExpansionRefused m n bytes room s fields c p = TermRefused s fields m n [] bytes c p ⊎ TooLong s m n room bytes c p

-- ALIKE and BODY
abbrev pub AlikeRefused : ℕ → ℕ → State → ℕ → ℕ → ℕ → Type 0
AlikeRefused g h s fields c p = (NoDefinition s g ⊎ NoDefinition s h) × (c ≡ 17) × (p ≡ 0)

abbrev pub BodyRefused : ℕ → State → ℕ → ℕ → ℕ → Type 0
BodyRefused g s fields c p = NoDefinition s g × (c ≡ 17) × (p ≡ 0)
