-- The meaning of an expression with its names found, by a reading of the theory, as a fold over the expression. Definitions only.
use Rattle.std.specs.Prelude.{List, [], ◌∷◌, ℕ}
use Rattle.theory.specs.Lists.{or_else}
use Rattle.theory.specs.Level.{bound_level}
use Rattle.theory.specs.Term.{Head, param, bound, declared, defined, builtin, leaf, literal, Reading, meaning, by_cards}
use Rattle.rules.specs.Expression.{Token}
use Rattle.rules.specs.State.{State, Context, head_of, card_level}
use Rattle.agree.specs.Folds.{Folding}

-- the meaning of the variable that a head binds, each code having its own; another head binds none
abbrev pub variable_of : {A : Type 0} → Reading A → (ℕ → A) → Head → A
variable_of M var (param i) = M.unknown
variable_of M var (bound j) = M.unknown
variable_of M var (declared k x) = M.unknown
variable_of M var (defined g) = M.unknown
variable_of M var (builtin c) = var c
variable_of M var (leaf l) = M.unknown

-- a token stands for a head; the environment lists the meanings of the bound variables, the nearest first
abbrev pub evaluating : {A : Type 0} → Reading A → (ℕ → A) → (Token → Head) → List A → Folding (List A) A (List A)
evaluating M var head ρ =
    record {
      token = λ β t vs. meaning M ρ β (head t) (λ v. vs);
      start = [];
      push = λ v vs. v ∷ vs;
      bind = λ t β. variable_of M var (head t) ∷ β;
    }

-- what a token stands for; one that is unknown (cause 9) is put as 0
abbrev pub head_in : State → Context → Token → Head
head_in s Γ t = or_else (leaf (literal 0)) (head_of s Γ t)

-- levels by the cards, parameters at the levels ρ
abbrev pub levelling : State → Context → List ℕ → Folding (List ℕ) ℕ (List ℕ)
levelling s Γ ρ = evaluating (by_cards (card_level s)) bound_level (head_in s Γ) ρ
